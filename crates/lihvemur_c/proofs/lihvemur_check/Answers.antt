use Rattle.lihvemur_c.proofs.Numbered.{told_checked}
use Rattle.lihvemur_c.proofs.lihvemur_check.Goals as goal

pub returns : goal.returns
returns c = told_checked _ _ _ _ c.told.ensures _ c.check.ensures.answer
