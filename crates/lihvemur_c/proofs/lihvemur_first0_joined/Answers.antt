use Rattle.lihvemur_c.proofs.Numbered.{first_answered, first-refused}
use Rattle.lihvemur_c.proofs.lihvemur_first0_joined.Goals as goal

pub returns-in-Some : goal.returns-in-Some
returns-in-Some c = first_answered _ _ _ _ _ _ c.told-number.ensures _ c.first0_joined.ensures _ c.in-Some.is

pub returns-in_default : goal.returns-in_default
returns-in_default c = first-refused _ _ _ _ _ _ c.told-number.ensures _ c.first0_joined.ensures c.in_default.is
