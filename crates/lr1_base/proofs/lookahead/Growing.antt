-- Laws of a list of token sets that grows until nothing changes: what lies inside what, which lists are the same, and the sum of the sets as numbers, which a change
-- raises and the size of the sets bounds.
use mathlib.Core.Path.{◌≡◌, refl, sym, subst}
use mathlib.Core.Bool.{true, false, ◌&&◌}
use mathlib.Core.List.{List, [], ◌∷◌}
use Prim.Native.Nat.{ℕ, suc, ◌+◌, ◌*◌, ◌^◌, ◌≤◌, ◌<◌}
use native.Mathlib.Omega.{arith}
use lib.Dec.{eqb}
use lib.ListN.{length, get_or, replicate, length-replicate}
use lib.Seq.{ext_get_or}
use borrow.Author.Tests.{eqb-true, eqb-false}
use Rattle.lr1_base.specs.words.Same.{same_words}
use Rattle.lr1_base.proofs.words.Same.{same_words_eq, eq_same_words}
use Rattle.lr1_base.proofs.repr.Lists.{cases, clash}
use Rattle.lr1_base.specs.lookahead.Tokens.{Within}
use Rattle.lr1_base.proofs.lookahead.Sets.{within_refl, within_trans, within_none, within_antisym, within_le}
use Rattle.lr1_base.proofs.laws.Lists.{zero_at}

-- every set of the one list within that of the other
abbrev pub Inside : List ℕ → List ℕ → Type 0
Inside S R = (n : ℕ) → Within (get_or S n 0) (get_or R n 0)

pub inside_refl : (S : List ℕ) → Inside S S
inside_refl S n = within_refl (get_or S n 0)

pub inside_trans : (S R Q : List ℕ) → Inside S R → Inside R Q → Inside S Q
inside_trans S R Q f g n = within_trans (get_or S n 0) (get_or R n 0) (get_or Q n 0) (f n) (g n)

pub inside_antisym : (S R : List ℕ) → length S ≡ length R → Inside S R → Inside R S → S ≡ R
inside_antisym S R l f g = ext_get_or 0 S R l (λ i h. within_antisym (get_or S i 0) (get_or R i 0) (f i) (g i))

pub inside-none : (n : ℕ) (R : List ℕ) → Inside (replicate n 0) R
inside-none n R k = rw (zero_at n k) (within_none (get_or R k 0))

-- what lies between two that are the same is the same as both
pub same_between : (S R Q : List ℕ) → length S ≡ length R → Inside S R → Inside R Q → same_words Q S ≡ (same_words R S && same_words Q R)
same_between S R Q l f g =
    cases (same_words R S)
    (λ t. let q = same_words_eq R S t in rw (t, q))
    (λ t. rw t (cases (same_words Q S)
    (λ u. clash (same_words R S) (eq_same_words R S (sym (inside_antisym S R l f (subst (Inside R) (same_words_eq Q S u) g)))) t)
    (λ u. u)))

-- the sum of the sets as numbers: a list that has all of another and is not the same has a larger one

unfoldable pub total : List ℕ → ℕ
total [] = 0
total (x ∷ xs) = x + total xs

total_le : (xs ys : List ℕ) → length xs ≡ length ys → ((i : ℕ) → get_or xs i 0 ≤ get_or ys i 0) → total xs ≤ total ys
unfolding total
total_le [] [] l f = omega arith
total_le [] (y ∷ ys) l f = absurd (omega arith)
total_le (x ∷ xs) [] l f = absurd (omega arith)
total_le (x ∷ xs) (y ∷ ys) l f = omega (arith, f 0, total_le xs ys (omega arith) (λ i. f (suc i)))

total_less : (xs ys : List ℕ) → length xs ≡ length ys → ((i : ℕ) → get_or xs i 0 ≤ get_or ys i 0) → same_words ys xs ≡ false → total xs < total ys
unfolding total same_words
total_less [] [] l f h = clash true refl h
total_less [] (y ∷ ys) l f h = absurd (omega arith)
total_less (x ∷ xs) [] l f h = absurd (omega arith)
total_less (x ∷ xs) (y ∷ ys) l f h =
    let rest = total_less xs ys (omega arith) (λ i. f (suc i)) in
    let le = total_le xs ys (omega arith) (λ i. f (suc i)) in
    let here = f 0 in
    cases (eqb y x)
    (λ e. let q = eqb-true y x e in let r = rest (rw e at h) in omega arith)
    (λ e. let q = eqb-false y x e in omega arith)

pub total_inside : (S R : List ℕ) → length S ≡ length R → Inside S R → same_words R S ≡ false → total S < total R
total_inside S R l f h = total_less S R l (λ i. within_le (get_or S i 0) (get_or R i 0) (f i)) h

pub total_few : (b : ℕ) (xs : List ℕ) → ((i : ℕ) → get_or xs i 0 < b) → total xs + length xs ≤ length xs * b
unfolding total
total_few b [] f = omega arith
total_few b (x ∷ xs) f = let h = f 0 in let rest = total_few b xs (λ i. f (suc i)) in omega arith

-- n sets, each a word of 64 bits
pub record Sized (n : ℕ) (S : List ℕ) : Type 0 where
  pub long : length S ≡ n
  pub fits : (k : ℕ) → get_or S k 0 < 2 ^ 64

pub none_sized : (n : ℕ) → Sized n (replicate n 0)
none_sized n = record { long = length-replicate {A = ℕ} n 0; fits = λ k. rw (zero_at n k) (omega arith) }

pub total_lt : (n : ℕ) (S : List ℕ) → 0 < n → Sized n S → total S < n * 2 ^ 64
total_lt n S h z = let l : total S + length S ≤ length S * 2 ^ 64 = total_few (2 ^ 64) S z.fits in omega (arith, rw z.long at l)
