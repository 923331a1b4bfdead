use Rattle.std.proofs.Common.{arith}
use Rattle.enumerator.proofs.example.Parts.{part_length}
use Rattle.enumerator.proofs.example.Labels.prefix_length.Goals as goal

pub returns : goal.returns
returns c = omega (arith, part_length _ _ c.prefix.ensures)
