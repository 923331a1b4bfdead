use Rattle.lihvemur_c.proofs.Numbered.{followed-tokens, followed-refused}
use Rattle.lihvemur_c.proofs.lihvemur_first1.Goals as goal

pub returns-in-Some : goal.returns-in-Some
returns-in-Some c = followed-tokens _ _ _ _ _ c.told-number.ensures _ c.first1.ensures _ c.in-Some.is

pub returns-in_default : goal.returns-in_default
returns-in_default c = followed-refused _ _ _ _ _ c.told-number.ensures _ c.first1.ensures c.in_default.is
