use native.Mathlib.Omega.{arith}
use Rattle.lr1_base.proofs.lookahead.Words.{contained}
use Rattle.lr1_base.proofs.lookahead.Laws.{has_above}
use borrow.Author.Tests.{le-ltb}
use mathlib.Core.Path.{sym, ◌∙◌}
use Rattle.lr1_base.proofs.lookahead.TokenSet.contains.Goals as goal

pub returns-then-token-lt-LIMIT : goal.returns-then-token-lt-LIMIT
returns-then-token-lt-LIMIT c = contained c.args.self.0 c.args.token

pub returns-else-token-lt-LIMIT : goal.returns-else-token-lt-LIMIT
returns-else-token-lt-LIMIT c = le-ltb c.args.token 64 c.if-token-lt-LIMIT.false ∙ sym (has_above c.args.self.0 64 c.args.token (omega (arith, c.well_formed)) c.if-token-lt-LIMIT.false)
