use mathlib.Core.Path.{refl}
use Rattle.first.proofs.Walk.{ahead-yes, ahead_no}
use Rattle.first.proofs.FirstSets.first1.Goals as goal

pub returns-then-answer : goal.returns-then-answer
returns-then-answer c = ahead-yes _ _ _ _ _ c.first0-answer.ensures _ c.if-answer.true c.union.ensures.is

pub returns-else-answer : goal.returns-else-answer
returns-else-answer c = ahead_no _ _ _ _ _ c.first0-answer.ensures _ c.if-answer.false refl
