use Rattle.lr1_base.proofs.lookahead.Laws.{has-none}
use mathlib.Core.Path.{refl}
use Rattle.lr1_base.proofs.lookahead.TokenSet.new.Goals as goal

pub returns : goal.returns
returns c = (refl, has-none)
