-- A word with a mask's bits, in its place among words.
use Rattle.std.proofs.Common.{◌≡◌, ◌≢◌, ℕ, ◌-◌, ◌^◌, ◌<◌, ◌⊎◌, inl, inr, List, length, get_or, arith, get_or-set_same, get_or-set_other}
use Rattle.std.specs.Prelude.{slice_set, bit_or}
use Rattle.std.specs.Int.{bit_at}
use Rattle.std.proofs.lemmas.Bool.{cases_eq}
use Rattle.std.proofs.lemmas.Nat.{le_or_l, or_lt}
use Rattle.std.proofs.lemmas.Nat.Bits.{bit_at_or, bit_at-lt}
use Rattle.std.proofs.lemmas.List.Sums.{sum_by-set}
use Rattle.bit_table.specs.Bits.{IsOn, Keeps, room}

pub or_gives : (a m b : ℕ) → bit_at (bit_or a m) b ≡ 1 → (bit_at a b ≡ 1) ⊎ (bit_at m b ≡ 1)
or_gives a m b h = elim (cases_eq (bit_at a b) 1) [
  | inl e ↦ inl e
  | inr n ↦ inr (omega (arith, h, bit_at_or a m b, bit_at-lt a b, bit_at-lt m b))
]

pub or_keeps : (a m b : ℕ) → bit_at a b ≡ 1 → bit_at (bit_or a m) b ≡ 1
or_keeps a m b h = omega (arith, h, bit_at_or a m b, bit_at-lt m b)

pub or_adds : (a m b : ℕ) → bit_at m b ≡ 1 → bit_at (bit_or a m) b ≡ 1
or_adds a m b h = omega (arith, h, bit_at_or a m b, bit_at-lt a b)

-- the words with the mask's bits in the word at i
abbrev pub with_mask : List ℕ → ℕ → ℕ → List ℕ
with_mask xs i m = slice_set xs i (bit_or (get_or xs i 0) m)

pub with_mask-keeps : (xs : List ℕ) (i m : ℕ) → i < length xs → Keeps xs (with_mask xs i m)
with_mask-keeps xs i m h j b on = elim (cases_eq j i) [
  | inl e ↦ rw (e, get_or-set_same) (or_keeps (get_or xs i 0) m b (rw e at on))
  | inr n ↦ rw get_or-set_other on
]

pub with_mask-adds : (xs : List ℕ) (i m : ℕ) → i < length xs → (b : ℕ) → bit_at m b ≡ 1 → IsOn (with_mask xs i m) i b
with_mask-adds xs i m h b on = rw get_or-set_same (or_adds (get_or xs i 0) m b on)

pub with_mask-only : (xs : List ℕ) (i m : ℕ) → i < length xs → (j b : ℕ) → IsOn (with_mask xs i m) j b → IsOn xs j b ⊎ ((j ≡ i) × (bit_at m b ≡ 1))
with_mask-only xs i m h j b on = elim (cases_eq j i) [
  | inl e ↦
      elim (or_gives (get_or xs i 0) m b (rw get_or-set_same at (rw e at on))) [
        | inl old ↦ inl (rw e old)
        | inr new ↦ inr (e, new)
      ]
  | inr n ↦ inl (rw get_or-set_other at on)
]

pub room-with_mask : (xs : List ℕ) (i m : ℕ) → i < length xs → get_or xs i 0 < 2 ^ 64 → m < 2 ^ 64 → bit_or (get_or xs i 0) m ≢ get_or xs i 0
    → room (with_mask xs i m) < room xs
unfolding room
room-with_mask xs i m h small mask_small new =
    omega (arith, sum_by-set (λ w. 2 ^ 64 - w) xs i (bit_or (get_or xs i 0) m) 0 h, le_or_l (get_or xs i 0) m, or_lt 64 (get_or xs i 0) m small mask_small)
