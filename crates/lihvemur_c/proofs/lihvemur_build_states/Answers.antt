use Rattle.lihvemur_c.proofs.Numbered.{build-made, build-refused}
use Rattle.lihvemur_c.proofs.lihvemur_build_states.Goals as goal

pub returns-in-Some : goal.returns-in-Some
returns-in-Some c = build-made _ _ _ _ _ _ c.told-number.ensures _ _ _ _ c.build_states-answer.ensures _ c.in-Some.is

pub returns-in_default : goal.returns-in_default
returns-in_default c = build-refused _ _ _ _ _ _ c.told-number.ensures _ _ _ _ c.build_states-answer.ensures c.in_default.is
