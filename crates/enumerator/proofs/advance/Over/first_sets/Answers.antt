use mathlib.Core.Path.{refl}
use Rattle.enumerator.proofs.advance.Asking.{sets-any, sets-set}
use Rattle.enumerator.proofs.advance.Over.first_sets.Goals as goal

pub returns-in_default : goal.returns-in_default
returns-in_default c = (sets-any _ _ c.in_default.is _, refl)

pub returns : goal.returns
returns c = (sets-set _ _ _ c.in-Some.is _ _ c.new.ensures.is, c.new.ensures.terminals)
