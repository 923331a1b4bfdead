use Rattle.lihvemur_c.proofs.Numbered.{compact_handed}
use Rattle.lihvemur_c.proofs.lihvemur_compact.Goals as goal

pub returns : goal.returns
returns c = compact_handed _ _ _ _ _ _ c.hand_out.ensures _ c.compact.ensures
