-- What the list of calls asks of the output, call by call.
use Prim.Native.Nat.{ℕ, suc, ◌+◌, ◌%◌, ◌≤◌, ◌<◌}
use native.Mathlib.Omega.{arith}
use mathlib.Core.Path.{◌≡◌, refl, ap, ◌∙◌}
use mathlib.Core.Bool.{Bool, true, false}
use mathlib.Core.List.{List, [], ◌∷◌, ◌++◌}
use lib.ListN.{length, get_or}
use lib.Dec.{leb, eqb}
use borrow.Author.Tests.{le-leb, lt-leb, ne_eqb, leb-true, leb-false, eqb-true, eqb-false}
use Rattle.listing.specs.CallList.{output_words, refusal_by, refusal_of_calls}

-- three numbers are a call
pub call_is : (three : List ℕ) → length three ≡ 3 → three ≡ get_or three 0 0 ∷ get_or three 1 0 ∷ get_or three 2 0 ∷ []
call_is [] n = absurd (omega arith)
call_is (x ∷ []) n = absurd (omega arith)
call_is (x ∷ y ∷ []) n = absurd (omega arith)
call_is (x ∷ y ∷ z ∷ w ∷ ws) n = absurd (omega arith)
call_is (x ∷ y ∷ z ∷ []) n = refl

pub words_next : {left : List ℕ} (three rest : List ℕ) → left ≡ three ++ rest → length three ≡ 3 → output_words left ≡ 3 + get_or three 2 0 + output_words rest
unfolding output_words
words_next three rest e n = ap output_words (e ∙ ap (λ (l : List ℕ). l ++ rest) (call_is three n))

-- none is left
pub words-none : (left : List ℕ) → length left < 3 → output_words left ≡ 0
unfolding output_words
words-none [] h = refl
words-none (x ∷ []) h = refl
words-none (x ∷ y ∷ []) h = refl
words-none (x ∷ y ∷ z ∷ left) h = absurd (omega arith)

module _ (cs : List ℕ) (n : ℕ) where
  pub cut_short : (length cs % 3 ≡ 0 → ⊥) → 9 ≡ refusal_of_calls cs n
  unfolding refusal_of_calls refusal_by
  cut_short ne = rw (ne_eqb _ _ ne)

  pub too_short : length cs % 3 ≡ 0 → n < output_words cs → 11 ≡ refusal_of_calls cs n
  unfolding refusal_of_calls refusal_by
  too_short e h = rw (e, lt-leb _ _ h)

  pub fits_all : length cs % 3 ≡ 0 → output_words cs ≤ n → 0 ≡ refusal_of_calls cs n
  unfolding refusal_of_calls refusal_by
  fits_all e h = rw (e, le-leb _ _ h)

  pub accepted : refusal_of_calls cs n ≡ 0 → (length cs % 3 ≡ 0) × (output_words cs ≤ n)
  accepted e = by_threes (eqb (length cs % 3) 0) refl
    where
      clash : {A : Type 0} (k : ℕ) → suc k ≡ 0 → A
      clash k z = absurd (omega arith)

      by_words : length cs % 3 ≡ 0 → (b : Bool) → leb (output_words cs) n ≡ b → (length cs % 3 ≡ 0) × (output_words cs ≤ n)
      by_words t true f = (t, leb-true _ _ f)
      by_words t false f = clash 10 (too_short t (leb-false _ _ f) ∙ e)

      by_threes : (b : Bool) → eqb (length cs % 3) 0 ≡ b → (length cs % 3 ≡ 0) × (output_words cs ≤ n)
      by_threes true f = by_words (eqb-true _ _ f) (leb (output_words cs) n) refl
      by_threes false f = clash 8 (cut_short (eqb-false _ _ f) ∙ e)
