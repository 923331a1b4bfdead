use Rattle.std.proofs.Common.{refl, arith}
use Rattle.conflict_sides.proofs.outline.word_of.Goals as goal

pub place-requires : goal.place-requires
place-requires c = rw c.in-Some.is at c.requires

pub returns-in-Some : goal.returns-in-Some
returns-in-Some c = (rw c.in-Some.is c.place.ensures.is, omega (arith, c.place.ensures.within))

pub returns-in-None : goal.returns-in-None
returns-in-None c = (rw c.in-None.is refl, omega arith)
