use lib.ListN.{length}
use Rattle.table.specs.Written.{symbols_from}
use Rattle.table.proofs.Written.{Storing}
use Rattle.table.proofs.accepted_table.AcceptedTable.store_symbols.Given as goal

abbrev pub invariant-loop-at : goal.invariant-loop-at
invariant-loop-at l = Storing l.self.words.now l.initial.grammar l.grammar l.production l.at l.count

abbrev pub decreases-loop-at : goal.decreases-loop-at
decreases-loop-at l = length (symbols_from l.self.words.now l.at)
