-- The test of two lists of words decides equality.
use mathlib.Core.Path.{◌≡◌, refl, sym, ap, ◌∙◌}
use mathlib.Core.Bool.{Bool, true, false, ◌&&◌, true≢false}
use mathlib.Core.List.{List, [], ◌∷◌, ◌++◌}
use Prim.Native.Nat.{ℕ}
use lib.Dec.{eqb}
use borrow.Author.Tests.{eqb-true, eq-eqb}
use lib.Pointwise.{pointwise}
use Rattle.lr1_base.specs.words.Same.{same_words}

pub same_words_eq : (p q : List ℕ) → same_words p q ≡ true → p ≡ q
unfolding same_words
same_words_eq [] [] e = refl
same_words_eq [] (y ∷ ys) e = absurd (true≢false (sym e))
same_words_eq (x ∷ xs) [] e = absurd (true≢false (sym e))
same_words_eq (x ∷ xs) (y ∷ ys) e = go (same_words_eq xs ys) (eqb x y) refl e
  where
    go : (same_words xs ys ≡ true → xs ≡ ys) → (b : Bool) → eqb x y ≡ b → (b && same_words xs ys) ≡ true → x ∷ xs ≡ y ∷ ys
    go rest true h f = let a = eqb-true x y h in let b = rest f in cc
    go rest false h f = absurd (true≢false (sym f))

pub same_words_refl : (p : List ℕ) → same_words p p ≡ true
unfolding same_words
same_words_refl [] = refl
same_words_refl (x ∷ xs) = rw (eq-eqb x x refl) (same_words_refl xs)

pub eq_same_words : (p q : List ℕ) → p ≡ q → same_words p q ≡ true
eq_same_words p q e = ap (same_words p) (sym e) ∙ same_words_refl p

pub ne_same_words : (p q : List ℕ) → (p ≡ q → ⊥) → same_words p q ≡ false
ne_same_words p q ne = go (same_words p q) refl
  where
    go : (b : Bool) → same_words p q ≡ b → b ≡ false
    go true e = absurd (ne (same_words_eq p q e))
    go false e = refl

-- the same test as std's, element by element
pub same_pointwise : (p q : List ℕ) → pointwise eqb p q ≡ same_words p q
unfolding same_words
same_pointwise [] [] = refl
same_pointwise [] (y ∷ ys) = refl
same_pointwise (x ∷ xs) [] = refl
same_pointwise (x ∷ xs) (y ∷ ys) = ap (λ (b : Bool). eqb x y && b) (same_pointwise xs ys)

pub same_behind : (p xs ys : List ℕ) → same_words (p ++ xs) (p ++ ys) ≡ same_words xs ys
unfolding same_words
same_behind [] xs ys = refl
same_behind (x ∷ p) xs ys = rw (eq-eqb x x refl) (same_behind p xs ys)
