use Rattle.lihvemur_c.proofs.Reported.{pack_is}
use Rattle.lihvemur_c.proofs.classes.pack.Goals as goal

pub returns : goal.returns
returns c = pack_is _ _ _ _
