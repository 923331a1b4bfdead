use Rattle.std.proofs.Common.{arith}
use Rattle.table.specs.Words.{records}
use Rattle.table_check.proofs.Sizes.{room}
use Rattle.table_check.proofs.inspect.Goals as goal

pub inspect_within-requires : goal.inspect_within-requires
unfolding records
inspect_within-requires c = record { sized = c.requires; room = omega arith; few = omega arith }

pub inspect_within-requires-2 : goal.inspect_within-requires-2
inspect_within-requires-2 c = let R = room _ c.requires in record { sized = c.requires; room = omega (arith, R.few); few = omega arith }
