use mathlib.Core.Bool.{not}
use mathlib.Core.Path.{ap}
use Rattle.lr1_base.proofs.lookahead.TokenSet.is_intersecting.Goals as goal

pub returns : goal.returns
returns c = ap not c.is_disjoint.ensures.0
