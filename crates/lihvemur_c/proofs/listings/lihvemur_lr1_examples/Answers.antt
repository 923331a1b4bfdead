use Rattle.lihvemur_c.proofs.Listed.{told_opened}
use Rattle.lihvemur_c.proofs.listings.lihvemur_lr1_examples.Goals as goal

pub returns : goal.returns
returns c = told_opened _ _ _ _ c.told.ensures _ c.lr1_examples-answer.ensures
