use Rattle.table.specs.Decoded.{meaning}
use Rattle.table.proofs.Written.{OwnersBelow}
use Rattle.table.proofs.accepted_table.AcceptedTable.read_owners.Given as goal

abbrev pub invariant-loop-n : goal.invariant-loop-n
invariant-loop-n l = OwnersBelow (meaning l.self.words.now) l.grammar l.n
