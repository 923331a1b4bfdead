use Rattle.table_check.specs.Offences.{row_of, place_of}
use Rattle.table_check.specs.Faults.{fault_at, Best}
use Rattle.table_check.specs.Passed.{Reaching}
use Rattle.table_check.proofs.scan.scan_loose.Given as goal

abbrev pub invariant-loop-r : goal.invariant-loop-r
invariant-loop-r g l = Reaching l.gathered.surveyed.words.now l.r l.marks.symbols l.marks.items l.marks.edges × Best (fault_at l.gathered.surveyed.words.now) l.r (row_of l.best) (place_of l.best)
