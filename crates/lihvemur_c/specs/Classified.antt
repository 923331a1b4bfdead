-- Each conflict of a built table is one that `classify` does not refuse by 1 to 11: what is gathered decides.
use Rattle.std.specs.Prelude.{◌≡◌, ℕ, ◌<◌, ◌≤◌, List, length}
use mathlib.Core.List.{Memᴰ}
use Rattle.lr1_base.specs.repr.Sizes.{classify_scratch, example_room}
use Rattle.lr1_base.specs.repr.Meaning.{Table}
use Rattle.table.specs.Decoded.{meaning}
use Rattle.lr1_states.specs.canonical.Canonical.{Clash}
use Rattle.lr1_tables.specs.Canonical.{IsCanonical}
use Rattle.conflict_sides.specs.declared.conflict.Conflict.{Conflict as Asked}
use Rattle.conflict_sides.specs.conflict.Sides.{gather}
use Rattle.conflict_sides.specs.conflict.Outcome.{gathered_outcome, classify_of}

-- a conflict of state k as `classify` takes it
abbrev pub conflict_of : ℕ → Clash → Asked
conflict_of k c = record { state = record { 0 = k }; production = record { 0 = c.production }; action = c.action; operand = c.other; token = c.token }

-- u are the words of a table that was built of T, list those of its conflicts
abbrev pub Classified : (T : Table) (start : ℕ) (u list : List ℕ) → IsCanonical T start u list → Type 0
Classified T start u list C =
    (k : ℕ) → k < length C.states → (c : Clash) → Memᴰ c (C.conflicts k) → (scratch action reduce : List ℕ)
    → classify_scratch ≤ length scratch → example_room ≤ length action → example_room ≤ length reduce
    → classify_of u (conflict_of k c) scratch action reduce ≡ gathered_outcome (meaning u) (conflict_of k c) scratch action reduce (gather (meaning u) (conflict_of k c))
