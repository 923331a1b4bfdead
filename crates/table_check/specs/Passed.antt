-- What the marks, a flag for each record, hold after some heads and some records are passed.
use Rattle.std.specs.Prelude.{ℕ, ◌+◌, ◌*◌, ◌<◌, ◌≤◌, true, ◌≡◌, List, length, replicate}
use Rattle.lr1_base.specs.bits.Bits.{bit_at}
use Rattle.table.specs.Words.{word_at, records, states, productions, state_area, production_area, loose_records, names}
use Rattle.table.specs.Reached.{Reached}

-- a place for each record, and nothing marked
pub record Blank (t ms : List ℕ) : Type 0 where
  pub room : records t ≤ length ms * 64
  pub blank : ms ≡ replicate (length ms) 0

-- the first i heads are marked, and so is the next of each marked record below r; nothing is marked that is not reached
pub record Passed (t : List ℕ) (first n k i r : ℕ) (ms : List ℕ) : Type 0 where
  pub long : records t ≤ length ms * 64
  pub sound : (z : ℕ) → bit_at ms z ≡ true → Reached t first n k z
  pub heads : (j x : ℕ) → j < i → x ≡ word_at t (first + j) k → names (loose_records t) (first + j) x ≡ true → bit_at ms x ≡ true
  pub nexts : (z x : ℕ) → z < r → bit_at ms z ≡ true → x ≡ word_at t z 0 → names (loose_records t) z x ≡ true → bit_at ms x ≡ true

-- the marks of the three sorts, all heads and the records below r passed
pub record Reaching (t : List ℕ) (r : ℕ) (ss is es : List ℕ) : Type 0 where
  pub symbols : Passed t (production_area t) (productions t) 1 (productions t) r ss
  pub items : Passed t (state_area t) (states t) 0 (states t) r is
  pub edges : Passed t (state_area t) (states t) 1 (states t) r es
