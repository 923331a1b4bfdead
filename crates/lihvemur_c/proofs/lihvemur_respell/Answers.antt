use Rattle.lihvemur_c.proofs.Numbered.{spell_handed}
use Rattle.lihvemur_c.proofs.lihvemur_respell.Goals as goal

pub returns : goal.returns
returns c = spell_handed _ _ _ _ _ _ c.hand_out.ensures _ c.respell.ensures
