use Rattle.lihvemur_c.proofs.Numbered.{read_made, read-refused}
use Rattle.lihvemur_c.proofs.lihvemur_read_yacc.Goals as goal

pub returns-in-Some : goal.returns-in-Some
returns-in-Some c = read_made _ _ _ _ _ _ _ c.told-number.ensures _ _ _ c.read_yacc.ensures _ c.in-Some.is

pub returns-in_default : goal.returns-in_default
returns-in_default c = read-refused _ _ _ _ _ _ _ c.told-number.ensures _ _ _ c.read_yacc.ensures c.in_default.is
