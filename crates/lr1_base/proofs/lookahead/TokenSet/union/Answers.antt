use mathlib.Core.Path.{refl}
use Rattle.lr1_base.specs.lookahead.Tokens.{union}
use Rattle.lr1_base.proofs.lookahead.Laws.{has-union}
use Rattle.lr1_base.proofs.lookahead.TokenSet.union.Goals as goal

pub returns : goal.returns
unfolding union
returns c = record { is = refl; members = has-union c.args.self.0 c.args.set.0 }
