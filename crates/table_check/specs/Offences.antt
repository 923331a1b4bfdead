-- The best so far of the pass over the records, as specs/Faults has it.
use Rattle.std.specs.Prelude.{ℕ, Option, None, Some}
use Rattle.table_check.specs.Rows.{number_of_row}
use Rattle.table_check.specs.declared.scan.Offence.{Offence}

abbrev pub row_of : Option Offence → ℕ
row_of None = 0
row_of (Some o) = number_of_row o.row

abbrev pub place_of : Option Offence → ℕ
place_of None = 0
place_of (Some o) = o.place
