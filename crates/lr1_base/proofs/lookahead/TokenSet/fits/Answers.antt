use Rattle.lr1_base.proofs.lookahead.Words.{tokens_few, tokens-all}
use borrow.Author.Tests.{le-leb}
use mathlib.Core.Path.{◌∙◌}
use native.Mathlib.Omega.{arith}
use Rattle.lr1_base.proofs.lookahead.TokenSet.fits.Goals as goal

pub returns-then-terminals-ge-TERMINALS : goal.returns-then-terminals-ge-TERMINALS
returns-then-terminals-ge-TERMINALS c = le-leb 63 c.args.terminals c.if-terminals-ge-TERMINALS.true ∙ tokens-all _ _ c.if-terminals-ge-TERMINALS.true c.requires (omega (arith, c.well_formed))

pub returns-else-terminals-ge-TERMINALS : goal.returns-else-terminals-ge-TERMINALS
returns-else-terminals-ge-TERMINALS c = tokens_few _ _ c.if-terminals-ge-TERMINALS.false
