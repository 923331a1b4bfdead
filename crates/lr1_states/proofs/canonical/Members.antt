-- Membership in the lists that the definitions make: ranges, the kept, mapped and joined lists.
use mathlib.Core.Path.{◌≡◌, refl, sym, ap, ◌∙◌, subst}
use mathlib.Core.Bool.{Bool, true}
use mathlib.Core.List.{List, [], ◌∷◌, ◌++◌, map, Memᴰ}
use mathlib.Core.Logic.{⊎_elim}
use Prim.Native.Nat.{ℕ, zero, suc, ◌<◌}
use native.Mathlib.Omega.{arith}
use lib.ListN.{length, get_or}
use Rattle.lr1_base.specs.repr.Lists.{below, keep, joined}
use Rattle.lr1_base.proofs.repr.Lists.{cases, keep-nil, keep-yes, keep_no, joined_nil, joined_cons, length-below, get_d_below}

module _ {A : Type 0} where
  at_in : (xs : List A) (i : ℕ) (d : A) → i < length xs → Memᴰ (get_or xs i d) xs
  at_in [] i d h = absurd (omega arith)
  at_in (x ∷ xs) zero d h = mathlib.Core.List.Memᴰ.head refl
  at_in (x ∷ xs) (suc i) d h = mathlib.Core.List.Memᴰ.tail (at_in xs i d (omega arith))

  in_at : (xs : List A) (d x : A) → Memᴰ x xs → (i : ℕ) × (i < length xs) × (get_or xs i d ≡ x)
  in_at [] d x m = absurd (mathlib.Core.List.Memᴰ.not-nil m)
  in_at (y ∷ xs) d x m =
      let more = in_at xs d x in
      ⊎_elim (λ e. (0, omega arith, sym e)) (λ i. let r = more i in (suc r.0, omega (arith, r.1), r.2)) (mathlib.Core.List.Memᴰ.cases_cons m)

  pub keep_in : (t : A → Bool) (x : A) (xs : List A) → Memᴰ x xs → t x ≡ true → Memᴰ x (keep t xs)
  keep_in t x [] m h = absurd (mathlib.Core.List.Memᴰ.not-nil m)
  keep_in t x (y ∷ xs) m h =
      let more : Memᴰ x xs → Memᴰ x (keep t xs) = λ i. keep_in t x xs i h in
      ⊎_elim
      (λ e. rw (keep-yes t y xs (ap t (sym e) ∙ h)) (mathlib.Core.List.Memᴰ.head e))
      (λ i. cases (t y) (λ u. rw (keep-yes t y xs u) (mathlib.Core.List.Memᴰ.tail (more i))) (λ u. rw (keep_no t y xs u) (more i)))
      (mathlib.Core.List.Memᴰ.cases_cons m)

  pub keep_out : (t : A → Bool) (x : A) (xs : List A) → Memᴰ x (keep t xs) → Memᴰ x xs × (t x ≡ true)
  keep_out t x [] m = absurd (mathlib.Core.List.Memᴰ.not-nil (rw (keep-nil t) at m))
  keep_out t x (y ∷ xs) m =
      let more = keep_out t x xs in
      cases (t y)
      (λ u. ⊎_elim
      (λ e. (mathlib.Core.List.Memᴰ.head e, ap t e ∙ u))
      (λ i. let r = more i in (mathlib.Core.List.Memᴰ.tail r.0, r.1))
      (mathlib.Core.List.Memᴰ.cases_cons (rw (keep-yes t y xs u) at m)))
      (λ u. let r = more (rw (keep_no t y xs u) at m) in (mathlib.Core.List.Memᴰ.tail r.0, r.1))

pub below-mem : (n k : ℕ) → k < n → Memᴰ k (below n)
below-mem n k h = subst (λ (j : ℕ). Memᴰ j (below n)) (get_d_below n k 0 h) (at_in (below n) k 0 (rw (length-below n) h))

pub mem_less : (n k : ℕ) → Memᴰ k (below n) → k < n
mem_less n k m =
    let r = in_at (below n) 0 k m in
    let h : r.0 < n = rw (length-below n) at r.1 in
    omega (arith, h, sym (get_d_below n r.0 0 h) ∙ r.2)

module _ {A : Type 0} {B : Type 0} where
  pub map-mem : (f : A → B) (x : A) (xs : List A) → Memᴰ x xs → Memᴰ (f x) (map f xs)
  map-mem f x xs (mathlib.Core.List.Memᴰ.head e) = mathlib.Core.List.Memᴰ.head (ap f e)
  map-mem f x xs (mathlib.Core.List.Memᴰ.tail {xs = ys} m) = mathlib.Core.List.Memᴰ.tail (map-mem f x ys m)

  pub map-out : (f : A → B) (y : B) (xs : List A) → Memᴰ y (map f xs) → (x : A) × Memᴰ x xs × (y ≡ f x)
  map-out f y [] m = absurd (mathlib.Core.List.Memᴰ.not-nil m)
  map-out f y (x ∷ xs) m =
      let more = map-out f y xs in
      ⊎_elim (λ e. (x, mathlib.Core.List.Memᴰ.head refl, e)) (λ i. let r = more i in (r.0, mathlib.Core.List.Memᴰ.tail r.1, r.2)) (mathlib.Core.List.Memᴰ.cases_cons m)

  pub joined_mem : (f : A → List B) (x : A) (xs : List A) (y : B) → Memᴰ x xs → Memᴰ y (f x) → Memᴰ y (joined f xs)
  joined_mem f x [] y m i = absurd (mathlib.Core.List.Memᴰ.not-nil m)
  joined_mem f x (z ∷ xs) y m i =
      let more : Memᴰ x xs → Memᴰ y (joined f xs) = λ m'. joined_mem f x xs y m' i in
      rw (joined_cons f z xs) (⊎_elim
      (λ e. mathlib.Core.List.Memᴰ.append_left (joined f xs) (subst (λ (u : A). Memᴰ y (f u)) e i))
      (λ j. mathlib.Core.List.Memᴰ.append_right (f z) (more j))
      (mathlib.Core.List.Memᴰ.cases_cons m))

  pub joined_from : (f : A → List B) (xs : List A) (y : B) → Memᴰ y (joined f xs) → (x : A) × Memᴰ x xs × Memᴰ y (f x)
  joined_from f [] y m = absurd (mathlib.Core.List.Memᴰ.not-nil (rw (joined_nil f) at m))
  joined_from f (x ∷ xs) y m =
      let more = joined_from f xs y in
      ⊎_elim
      (λ i. (x, mathlib.Core.List.Memᴰ.head refl, i))
      (λ i. let r = more i in (r.0, mathlib.Core.List.Memᴰ.tail r.1, r.2))
      (mathlib.Core.List.Memᴰ.append_cases (f x) (rw (joined_cons f x xs) at m))
