use Rattle.std.proofs.Common.{refl, arith}
use Rattle.trace.proofs.edge_codes.EdgeCode.word.Goals as goal
use Rattle.lr1_base.specs.item.Places.{item_place}

pub returns : goal.returns
unfolding item_place
returns c = (rw (c.number.ensures.0, c.place.ensures.is) refl, omega (arith, c.number.ensures.1, c.place.ensures.within))
