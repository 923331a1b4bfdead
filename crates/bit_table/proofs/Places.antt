-- Where a row's bits stand.
use Rattle.std.proofs.Common.{◌≡◌, ◌≢◌, ℕ, ◌+◌, ◌*◌, ◌/◌, ◌%◌, ◌<◌, ◌≤◌, ◌^◌, ◌⊎◌, inl, inr, List, sym, ◌∙◌, ap, arith, w64}
use Rattle.std.specs.Prelude.{bit_or}
use Rattle.std.specs.Int.{bit_at}
use Rattle.std.proofs.lemmas.Bool.{cases_lt, cases_eq}
use Rattle.std.proofs.lemmas.Nat.{div-mul-add, mod-mul-add, row_fits}
use Rattle.std.proofs.lemmas.Nat.Bits.{bit_at_set_other, bit_at-zero}
use Rattle.bit_table.specs.Bits.{IsOn}
use Rattle.bit_table.proofs.Masks.{or_adds}

-- two rows do not overlap
pub rows_apart : (a b w : ℕ) → a ≢ b → (a * w + w ≤ b * w) ⊎ (b * w + w ≤ a * w)
rows_apart a b w n = elim (cases_lt a b) [
  | inl l ↦ inl (row_fits a w b w l (omega arith))
  | inr l ↦ inr (row_fits b w a w (omega arith) (omega arith))
]

-- the row and the word in it of a place
pub one_place : (a b i j w : ℕ) → i < w → j < w → a * w + i ≡ b * w + j → (a ≡ b) × (i ≡ j)
one_place a b i j w low high e =
    (sym (div-mul-add a w i low) ∙ ap (λ n. n / w) e ∙ div-mul-add b w j high, sym (mod-mul-add a w i low) ∙ ap (λ n. n % w) e ∙ mod-mul-add b w j high)

-- the word of a column is within the row
pub word_within : (c columns w : ℕ) → c < columns → columns ≤ 64 * w → c / 64 < w
word_within c columns w l h = omega arith

-- a column from its word and its bit
pub one_column : (c d : ℕ) → c / 64 ≡ d / 64 → c % 64 ≡ d % 64 → c ≡ d
one_column c d e f = omega arith

-- where a bit of a table comes from, when a row was added to another
pub row_added : (old : List ℕ) (w into from r c : ℕ) → c / 64 < w
    → IsOn old (r * w + c / 64) (c % 64) ⊎ ((k : ℕ) × (k < w) × (r * w + c / 64 ≡ into * w + k) × IsOn old (from * w + k) (c % 64))
    → IsOn old (r * w + c / 64) (c % 64) ⊎ ((r ≡ into) × IsOn old (from * w + c / 64) (c % 64))
row_added old w into from r c l (inl h) = inl h
row_added old w into from r c l (inr h) =
    let same = one_place r into (c / 64) h.0 w l h.1 h.2 in
    inr (same.0, rw same.1 h.3)

-- and when one bit was set
pub bit_added : (old : List ℕ) (w row column r c : ℕ) → c / 64 < w → column / 64 < w
    → IsOn old (r * w + c / 64) (c % 64) ⊎ ((r * w + c / 64 ≡ row * w + column / 64) × (bit_at (1 * 2 ^ (column % 64) % 2 ^ 64) (c % 64) ≡ 1))
    → IsOn old (r * w + c / 64) (c % 64) ⊎ ((r ≡ row) × (c ≡ column))
bit_added old w row column r c l m (inl h) = inl h
bit_added old w row column r c l m (inr h) =
    let same = one_place r row (c / 64) (column / 64) w l m h.0 in
    elim (cases_eq (c % 64) (column % 64)) [
      | inl e ↦ inr (same.0, one_column c column same.1 e)
      | inr n ↦ absurd (other_bit (column % 64) (c % 64) (omega arith) n h.1)
    ]
  where
    other_bit : (k i : ℕ) → k < 64 → i ≢ k → bit_at (1 * 2 ^ k % 2 ^ 64) i ≡ 1 → ⊥
    other_bit k i small n on = let zero_bit : bit_at (bit_or 0 (1 * 2 ^ k % 2 ^ 64)) i ≡ bit_at 0 i = bit_at_set_other w64 0 k small i n in omega (arith, bit_at-zero i, or_adds 0 (1 * 2 ^ k % 2 ^ 64) i on, zero_bit)
