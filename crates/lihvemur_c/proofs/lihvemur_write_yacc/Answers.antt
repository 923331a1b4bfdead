use Rattle.lihvemur_c.proofs.Numbered.{write_handed}
use Rattle.lihvemur_c.proofs.lihvemur_write_yacc.Goals as goal

pub returns : goal.returns
returns c = write_handed _ _ _ _ _ _ c.hand_out.ensures _ c.write_yacc.ensures
