-- The observed symbols (`report_error_not_lr1_core`; docs/RULES.md, "Observed symbols").
use Rattle.std.specs.Prelude.{ℕ, ◌*◌, Bool, true, false, ◌&&◌, List, [], length, take, drop, nat_le, slice_index}
use Rattle.lr1_base.specs.repr.Sizes.{reduction_place}

-- an example in words that is whole: its three counts, its symbols and its reductions, and a cursor within the symbols
unfoldable pub is_whole_example : List ℕ → Bool
is_whole_example b = nat_le 3 (length b) && (nat_le (reduction_place (slice_index b 0) (slice_index b 2)) (length b) && nat_le (slice_index b 1) (slice_index b 0))

-- the words of the symbols before the cursor
unfoldable pub before_cursor : List ℕ → List ℕ
before_cursor b = take (2 * slice_index b 1) (drop 3 b)

-- those of the action's example if its cursor is at least the other's; where either is not whole, an empty part
unfoldable pub observed_of : List ℕ → List ℕ → List ℕ
observed_of action reduce = elim (is_whole_example action && is_whole_example reduce) [
  | false ↦ []
  | true ↦ elim (nat_le (slice_index reduce 1) (slice_index action 1)) [ true ↦ before_cursor action | false ↦ before_cursor reduce ]
]
