use Rattle.lihvemur_c.proofs.Reported.{values_packed}
use Rattle.std.proofs.Common.{◌∙◌}
use Rattle.lihvemur_c.proofs.classes.class_values.Goals as goal

pub returns : goal.returns
returns c = c.pack.ensures ∙ rw c.values.ensures (values_packed c.args.class)
