use Rattle.table.specs.Decoded.{meaning}
use Rattle.table.proofs.Written.{Reading}
use Rattle.table.proofs.accepted_table.AcceptedTable.read_symbols.Given as goal

abbrev pub invariant-loop-p : goal.invariant-loop-p
invariant-loop-p l = Reading (meaning l.self.words.now) l.grammar l.p
