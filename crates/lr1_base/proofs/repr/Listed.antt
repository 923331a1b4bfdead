-- Laws of lists of symbols in words (specs/repr/Listed): a list from a place on, symbol by symbol.
use mathlib.Core.Path.{◌≡◌, refl, sym, ap, ◌∙◌}
use mathlib.Core.Bool.{true, false, ◌&&◌, and-false}
use mathlib.Core.List.{List, [], ◌∷◌}
use Prim.Native.Nat.{ℕ, zero, suc, ◌+◌, ◌%◌, ◌≤◌, ◌<◌}
use native.Mathlib.Omega.{arith}
use native.Mathlib.Numerals.{add-one, add-two}
use lib.ListN.{length, get_or, drop, drop_of_length-le}
use lib.Seq.{drop-cons}
use borrow.Author.Tests.{ltb-true, lt-ltb}
use lib.Dec.{ltb}
use Rattle.lr1_base.specs.repr.Listed.{symbol_of_kind, listed, symbol_is_fit, list_is_fit}
use Rattle.lr1_base.proofs.laws.Bools.{and_left, and_right}

-- two words from a place on
pub drop_two : (ws : List ℕ) (at : ℕ) → at + 1 < length ws → drop at ws ≡ get_or ws at 0 ∷ get_or ws (at + 1) 0 ∷ drop (at + 2) ws
drop_two ws at h =
    drop-cons ws at 0 (omega arith)
    ∙ ap (λ (l : List ℕ). get_or ws at 0 ∷ l) (drop-cons ws (suc at) 0 (omega arith) ∙ rw (add-one at, add-two at))

pub drop-last : (ws : List ℕ) (at : ℕ) → at < length ws → length ws ≤ at + 1 → drop at ws ≡ get_or ws at 0 ∷ []
drop-last ws at h l = drop-cons ws at 0 h ∙ ap (λ (r : List ℕ). get_or ws at 0 ∷ r) (drop_of_length-le ws {i = suc at} (rw (add-one at) at l))

module _ (n t : ℕ) (ws : List ℕ) (at : ℕ) where
  pub fits_half : at < length ws → length ws ≤ at + 1 → list_is_fit n t (drop at ws) ≡ false
  unfolding list_is_fit
  fits_half h l = rw (drop-last ws at h l)

  pub fits-step : at + 1 < length ws → (k x : ℕ) → k ≡ get_or ws at 0 → x ≡ get_or ws (at + 1) 0
      → list_is_fit n t (drop at ws) ≡ symbol_is_fit n t k x && list_is_fit n t (drop (at + 2) ws)
  unfolding list_is_fit
  fits-step h k x ek ex = rw (drop_two ws at h, ek, ex)

-- a list of an odd number of words ends with half a symbol
pub odd_unfit : (n t : ℕ) (ws : List ℕ) → (length ws % 2 ≡ 0 → ⊥) → list_is_fit n t ws ≡ false
unfolding list_is_fit
odd_unfit n t [] o = absurd (o refl)
odd_unfit n t (k ∷ []) o = refl
odd_unfit n t (k ∷ x ∷ ws) o = rw (odd_unfit n t ws (λ e. o (omega arith))) (and-false (symbol_is_fit n t k x))

-- one symbol from a place on
pub listed-none : (ws : List ℕ) (at : ℕ) → length ws ≤ at → listed (drop at ws) ≡ []
unfolding listed
listed-none ws at h = rw (drop_of_length-le ws h)

pub listed-step : (ws : List ℕ) (at : ℕ) → at + 1 < length ws → listed (drop at ws) ≡ symbol_of_kind (get_or ws at 0) (get_or ws (at + 1) 0) ∷ listed (drop (at + 2) ws)
unfolding listed
listed-step ws at h = rw (drop_two ws at h)

-- a symbol in range, by its kind
pub symbol_range : (n t k x : ℕ) → symbol_is_fit n t k x ≡ true → (k < 2) × ((k ≡ 0 → x < n) × ((k ≡ 0 → ⊥) → x < t))
unfolding symbol_is_fit
symbol_range n t zero x e = (omega arith, (λ _. ltb-true x n e, λ ne. absurd (ne refl)))
symbol_range n t (suc zero) x e = (omega arith, (λ (z : ◌≡◌ {A = ℕ} 1 0). absurd (omega arith), λ _. ltb-true x t e))
symbol_range n t (suc (suc k)) x e = let z : ◌≡◌ {A = ℕ} 0 1 = cc in absurd (omega arith)

-- a symbol's test, by its kind
pub kind_zero : (n t k x : ℕ) → k ≡ 0 → ltb x n ≡ symbol_is_fit n t k x
unfolding symbol_is_fit
kind_zero n t k x e = rw e

pub kind_one : (n t k x : ℕ) → k ≡ 1 → ltb x t ≡ symbol_is_fit n t k x
unfolding symbol_is_fit
kind_one n t k x e = rw e

pub kind_other : (n t k x : ℕ) → (k ≡ 0 → ⊥) → (k ≡ 1 → ⊥) → false ≡ symbol_is_fit n t k x
unfolding symbol_is_fit
kind_other n t zero x a b = absurd (a refl)
kind_other n t (suc zero) x a b = absurd (b refl)
kind_other n t (suc (suc k)) x a b = refl

-- a range within a larger one
pub symbol_wider : (n t n' t' k x : ℕ) → n ≤ n' → t ≤ t' → symbol_is_fit n t k x ≡ true → symbol_is_fit n' t' k x ≡ true
unfolding symbol_is_fit
symbol_wider n t n' t' zero x hn ht e = let h = ltb-true x n e in lt-ltb x n' (omega arith)
symbol_wider n t n' t' (suc zero) x hn ht e = let h = ltb-true x t e in lt-ltb x t' (omega arith)
symbol_wider n t n' t' (suc (suc k)) x hn ht e = e

-- a list in range from a place on: whole symbols, and the rest in range
pub fits_head : (n t : ℕ) (ws : List ℕ) (at : ℕ) → at < length ws → list_is_fit n t (drop at ws) ≡ true
    → (at + 1 < length ws) × ((symbol_is_fit n t (get_or ws at 0) (get_or ws (at + 1) 0) ≡ true) × (list_is_fit n t (drop (at + 2) ws) ≡ true))
fits_head n t ws at h e = go (native.Mathlib.Decide.dec_lt (at + 1) (length ws))
  where
    go : Dec (at + 1 < length ws) → (at + 1 < length ws) × ((symbol_is_fit n t (get_or ws at 0) (get_or ws (at + 1) 0) ≡ true) × (list_is_fit n t (drop (at + 2) ws) ≡ true))
    go (yes l) =
        let s = sym (fits-step n t ws at l _ _ refl refl) ∙ e in
        (l, (and_left _ _ s, and_right (symbol_is_fit n t (get_or ws at 0) (get_or ws (at + 1) 0)) _ s))
    go (no g) =
        let f = fits_half n t ws at h (omega arith) in
        let z : ◌≡◌ {A = ℕ} 0 1 = cc in
        absurd (omega arith)
