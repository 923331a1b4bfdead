use mathlib.Core.Path.{refl}
use Rattle.explain.specs.Printed.{nth_conflict}
use Rattle.explain.proofs.conflict_of.Goals as goal

pub returns : goal.returns
unfolding nth_conflict
returns c = refl
