-- What the exported functions of a listing answer in numbers, as in Exported.
use Rattle.std.specs.Prelude.{ℕ, Bool, true, false, List}
use Rattle.lr1_base.specs.repr.Reply.{Reply, answered, refused}
use Rattle.enumerator.specs.trials.Advance.{Outcome, outcome}
use Rattle.enumerator.specs.trials.Lookahead.{Lookahead}
use Rattle.std.specs.Prelude.{None, Some}
use Rattle.enumerator.specs.declared.trials.Listing.{Listing}
use Rattle.enumerator.specs.declared.trials.Advanced.TheVariants.{Example, End}
use Rattle.listing.specs.CallList.{Ran, listed}
use Rattle.lihvemur_c.specs.Exported.{Numbers, numbers}

-- any lookahead, by whether the listing is filtered
unfoldable pub ahead_of : Bool → ℕ → Lookahead
ahead_of true s = Some (record { 0 = s })
ahead_of false s = None

unfoldable pub open_numbers : Reply Listing → Numbers
open_numbers (answered l) = numbers 0 0
open_numbers (refused n r) = numbers n r

-- answer, place, count, whether the listing is open, scratch words and buffer words
pub data AdvanceNumbers : Type 0 where
  advance_numbers : ℕ → ℕ → ℕ → Bool → List ℕ → List ℕ → AdvanceNumbers

unfoldable pub advanced_numbers : Outcome → AdvanceNumbers
advanced_numbers (outcome (answered Example) l scratch buffer) = advance_numbers 0 0 l.count l.is_open scratch buffer
advanced_numbers (outcome (answered End) l scratch buffer) = advance_numbers 16 0 l.count l.is_open scratch buffer
advanced_numbers (outcome (refused n r) l scratch buffer) = advance_numbers n r l.count l.is_open scratch buffer

-- answer, place, number of calls made, scratch words and output words; the number as it was where the list is refused
pub data ListNumbers : Type 0 where
  list_numbers : ℕ → ℕ → ℕ → List ℕ → List ℕ → ListNumbers

unfoldable pub listed_numbers : ℕ → Ran → ListNumbers
listed_numbers old (listed (answered n) scratch output) = list_numbers 0 0 n scratch output
listed_numbers old (listed (refused n r) scratch output) = list_numbers n r old scratch output
