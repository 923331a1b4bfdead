-- A row of the code as its number among the refusals (docs/RULES.md, "Refusals"); 0 is none.
use Rattle.std.specs.Prelude.{ℕ, Option, None, Some}
use Rattle.table_check.specs.declared.fault.Row.{Row}
use Rattle.table_check.specs.declared.fault.Row.TheVariants.{Chain, Owner, TooLong, Symbol, Target, Spare}

abbrev pub number_of_row : Row → ℕ
number_of_row Chain = 3
number_of_row Owner = 4
number_of_row TooLong = 5
number_of_row Symbol = 6
number_of_row Target = 7
number_of_row Spare = 8

abbrev pub number_of_fault : Option Row → ℕ
number_of_fault None = 0
number_of_fault (Some row) = number_of_row row
