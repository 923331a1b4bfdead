-- Laws of the lists of specs/repr/Lists: ranges, membership, the kept, the number of times, lists joined. Those of its tests are in Tests.
-- An element is named by its index, `get_or xs i d` with any default d; for numbers also by `mem`.
use mathlib.Core.Path.{◌≡◌, refl, sym, ap, ◌∙◌}
use mathlib.Core.Bool.{Bool, true, false, ◌&&◌, ◌||◌, not, true≢false, and-false}
use mathlib.Core.List.{List, [], ◌∷◌, ◌++◌, map, append_assoc}
use Prim.Native.Nat.{ℕ, zero, suc, ◌+◌, ◌≤◌, ◌<◌, ◌-◌}
use native.Mathlib.Omega.{arith}
use lib.ListN.{length, get_or}
use lib.Dec.{eqb, ltb}
use borrow.Author.Tests.{eqb-true, eqb-false, eq-eqb, ne_eqb, ltb-true, ltb-false, lt-ltb, le-ltb}
use Rattle.lr1_base.specs.repr.Lists.{up_from, below, mem, occurrences, keep, joined}
use native.Mathlib.Numerals.{add-one}

-- a test is true or false, with its equation
pub cases {ℓ} : {P : Type ℓ} (b : Bool) → (b ≡ true → P) → (b ≡ false → P) → P
cases true f g = f refl
cases false f g = g refl

-- a test that is true is not false
pub clash {ℓ} : {P : Type ℓ} (b : Bool) → b ≡ true → b ≡ false → P
clash b e f = absurd (true≢false (sym e ∙ f))

-- a comparison of numbers, turned round
pub turned : (n m : ℕ) → eqb n m ≡ eqb m n
turned n m =
    cases (eqb m n)
    (λ a. eq-eqb n m (sym (eqb-true m n a)) ∙ sym a)
    (λ a. ne_eqb n m (λ q. eqb-false m n a (sym q)) ∙ sym a)

-- ranges

pub length-up_from : (from n : ℕ) → length (up_from from n) ≡ n
unfolding up_from
length-up_from from zero = refl
length-up_from from (suc n) = ap suc (length-up_from (suc from) n)

pub length-below : (n : ℕ) → length (below n) ≡ n
unfolding below
length-below n = length-up_from 0 n

pub get_d_up_from : (from n i d : ℕ) → i < n → get_or (up_from from n) i d ≡ from + i
unfolding up_from
get_d_up_from from zero i d h = absurd (omega arith)
get_d_up_from from (suc n) zero d h = omega arith
get_d_up_from from (suc n) (suc i) d h = get_d_up_from (suc from) n i d (omega arith) ∙ omega arith

pub get_d_below : (n i d : ℕ) → i < n → get_or (below n) i d ≡ i
unfolding below
get_d_below n i d h = get_d_up_from 0 n i d h ∙ omega arith

pub up_from-last : (from n : ℕ) → up_from from (suc n) ≡ up_from from n ++ (from + n) ∷ []
unfolding up_from
up_from-last from zero = ap (λ (k : ℕ). k ∷ []) (omega arith)
up_from-last from (suc n) = ap (λ (l : List ℕ). from ∷ l) (up_from-last (suc from) n ∙ ap (λ (k : ℕ). up_from (suc from) n ++ k ∷ []) (omega arith))

pub below_last : (n : ℕ) → below (suc n) ≡ below n ++ n ∷ []
unfolding below
below_last n = up_from-last 0 n ∙ ap (λ (k : ℕ). up_from 0 n ++ k ∷ []) (omega arith)

module _ {ℓ κ} {A : Type ℓ} {B : Type κ} where
  pub get_d_map : (f : A → B) (xs : List A) (i : ℕ) (a : A) (d : B) → i < length xs → get_or (map f xs) i d ≡ f (get_or xs i a)
  get_d_map f [] i a d h = absurd (omega arith)
  get_d_map f (x ∷ xs) zero a d h = refl
  get_d_map f (x ∷ xs) (suc i) a d h = get_d_map f xs i a d (omega arith)

  pub length_mapped : (f : A → B) (xs : List A) → length (map f xs) ≡ length xs
  length_mapped f [] = refl
  length_mapped f (x ∷ xs) = ap suc (length_mapped f xs)

module _ {ℓ} {B : Type ℓ} where
  pub length-map-below : (f : ℕ → B) (n : ℕ) → length (map f (below n)) ≡ n
  length-map-below f n = length_mapped f (below n) ∙ length-below n

  pub get_d_map-below : (f : ℕ → B) (n i : ℕ) (d : B) → i < n → get_or (map f (below n)) i d ≡ f i
  get_d_map-below f n i d h = get_d_map f (below n) i 0 d (rw (length-below n) h) ∙ ap f (get_d_below n i 0 h)

-- membership, by the test of each element

pub mem-yes : (n x : ℕ) (xs : List ℕ) → eqb n x ≡ true → mem n (x ∷ xs) ≡ true
unfolding mem
mem-yes n x xs e = rw (e, mem)

pub mem_no : (n x : ℕ) (xs : List ℕ) → eqb n x ≡ false → mem n (x ∷ xs) ≡ mem n xs
unfolding mem
mem_no n x xs e = rw (e, mem)

pub mem-nil : (n : ℕ) → mem n [] ≡ false
unfolding mem
mem-nil n = refl

pub mem-cons : (n x : ℕ) (xs : List ℕ) → mem n (x ∷ xs) ≡ (eqb n x || mem n xs)
mem-cons n x xs = cases (eqb n x) (λ e. mem-yes n x xs e ∙ rw e) (λ e. mem_no n x xs e ∙ rw e)

pub mem-cons_here : (n : ℕ) (xs : List ℕ) → mem n (n ∷ xs) ≡ true
mem-cons_here n xs = mem-yes n n xs (eq-eqb n n refl)

pub mem-cons_there : (n x : ℕ) (xs : List ℕ) → mem n xs ≡ true → mem n (x ∷ xs) ≡ true
mem-cons_there n x xs h = cases (eqb n x) (mem-yes n x xs) (λ e. mem_no n x xs e ∙ h)

pub mem-append : (n : ℕ) (xs ys : List ℕ) → mem n (xs ++ ys) ≡ (mem n xs || mem n ys)
mem-append n [] ys = rw (mem-nil n)
mem-append n (x ∷ xs) ys =
    let rest = mem-append n xs ys in
    cases (eqb n x) (λ e. rw (mem-yes n x (xs ++ ys) e, mem-yes n x xs e)) (λ e. rw (mem_no n x (xs ++ ys) e, mem_no n x xs e) rest)

-- the element at an index is a member, and a member stands at an index
pub mem_at : (xs : List ℕ) (i d : ℕ) → i < length xs → mem (get_or xs i d) xs ≡ true
mem_at [] i d h = absurd (omega arith)
mem_at (x ∷ xs) zero d h = mem-cons_here x xs
mem_at (x ∷ xs) (suc i) d h = mem-cons_there (get_or xs i d) x xs (mem_at xs i d (omega arith))

pub mem_index : (n : ℕ) (xs : List ℕ) (d : ℕ) → mem n xs ≡ true → (i : ℕ) × (i < length xs) × (get_or xs i d ≡ n)
mem_index n [] d h = clash (mem n []) h (mem-nil n)
mem_index n (x ∷ xs) d h =
    cases (eqb n x) (λ e. (0, omega arith, sym (eqb-true n x e))) (λ e. let r = mem_index n xs d (sym (mem_no n x xs e) ∙ h) in (suc r.0, omega (arith, r.1), r.2))

pub mem-up_from : (k from n : ℕ) → mem k (up_from from n) ≡ (not (ltb k from) && ltb k (from + n))
unfolding up_from
mem-up_from k from zero =
    mem-nil k ∙ cases (ltb k from) (λ e. rw e) (λ e. let h = ltb-false k from e in rw (e, le-ltb k (from + 0) (omega arith)))
mem-up_from k from (suc n) =
    let rest = mem-up_from k (suc from) n in
    cases (eqb k from)
    (λ e.
    let q = eqb-true k from e in
    mem-yes k from (up_from (suc from) n) e ∙ rw (le-ltb k from (omega arith), lt-ltb k (from + suc n) (omega arith)))
    (λ e.
    let q = eqb-false k from e in
    mem_no k from (up_from (suc from) n) e ∙ rest
    ∙ cases (ltb k from)
    (λ l. let h = ltb-true k from l in rw (l, lt-ltb k (suc from) (omega arith)))
    (λ l.
    let h = ltb-false k from l in
    let g : suc from + n ≡ from + suc n = omega arith in
    rw (l, le-ltb k (suc from) (omega arith), g)))

pub mem_below : (k n : ℕ) → mem k (below n) ≡ ltb k n
unfolding below
mem_below k n = let g : 0 + n ≡ n = omega arith in mem-up_from k 0 n ∙ rw (le-ltb k 0 (omega arith), g)

-- the kept

module _ {ℓ} {A : Type ℓ} where
  pub keep-nil : (t : A → Bool) → keep t [] ≡ []
  unfolding keep
  keep-nil t = refl

  pub keep-yes : (t : A → Bool) (x : A) (xs : List A) → t x ≡ true → keep t (x ∷ xs) ≡ x ∷ keep t xs
  unfolding keep
  keep-yes t x xs e = rw (e, keep)

  pub keep_no : (t : A → Bool) (x : A) (xs : List A) → t x ≡ false → keep t (x ∷ xs) ≡ keep t xs
  unfolding keep
  keep_no t x xs e = rw (e, keep)

  pub keep_append : (t : A → Bool) (xs ys : List A) → keep t (xs ++ ys) ≡ keep t xs ++ keep t ys
  keep_append t [] ys = rw (keep-nil t)
  keep_append t (x ∷ xs) ys =
      let rest = keep_append t xs ys in
      cases (t x) (λ e. rw (keep-yes t x (xs ++ ys) e, keep-yes t x xs e, rest)) (λ e. rw (keep_no t x (xs ++ ys) e, keep_no t x xs e) rest)

  pub keep-none : (t : A → Bool) (xs : List A) (d : A) → ((i : ℕ) → i < length xs → t (get_or xs i d) ≡ false) → keep t xs ≡ []
  keep-none t [] d h = keep-nil t
  keep-none t (x ∷ xs) d h = keep_no t x xs (h 0 (omega arith)) ∙ keep-none t xs d (λ i l. h (suc i) (omega arith))

  -- two tests that agree on the list keep the same
  pub keep_agree : (t u : A → Bool) (xs : List A) (d : A) → ((i : ℕ) → i < length xs → t (get_or xs i d) ≡ u (get_or xs i d)) → keep t xs ≡ keep u xs
  keep_agree t u [] d h = keep-nil t ∙ sym (keep-nil u)
  keep_agree t u (x ∷ xs) d h =
      let rest = keep_agree t u xs d (λ i l. h (suc i) (omega arith)) in
      let first : t x ≡ u x = h 0 (omega arith) in
      cases (u x) (λ e. rw (keep-yes t x xs (first ∙ e), keep-yes u x xs e, rest)) (λ e. rw (keep_no t x xs (first ∙ e), keep_no u x xs e) rest)

  pub length-keep : (t : A → Bool) (xs : List A) → length (keep t xs) ≤ length xs
  length-keep t [] = rw (keep-nil t) (omega arith)
  length-keep t (x ∷ xs) = let r = length-keep t xs in cases (t x) (λ e. rw (keep-yes t x xs e) (omega arith)) (λ e. rw (keep_no t x xs e) (omega arith))

pub mem-keep : (t : ℕ → Bool) (n : ℕ) (xs : List ℕ) → mem n (keep t xs) ≡ (mem n xs && t n)
mem-keep t n [] = rw (keep-nil t, mem-nil n)
mem-keep t n (x ∷ xs) =
    let rest = mem-keep t n xs in
    cases (eqb n x)
    (λ q. rw (mem-yes n x xs q, ap t (eqb-true n x q)) (cases (t x)
    (λ e. rw (keep-yes t x xs e, mem-yes n x (keep t xs) q, e))
    (λ e. rw (keep_no t x xs e, rest, ap t (eqb-true n x q), e) (and-false (mem n xs)))))
    (λ q. rw (mem_no n x xs q) (cases (t x)
    (λ e. rw (keep-yes t x xs e, mem_no n x (keep t xs) q) rest)
    (λ e. rw (keep_no t x xs e) rest)))

-- the number of times

pub occurrences-nil : (n : ℕ) → occurrences n [] ≡ 0
unfolding occurrences
occurrences-nil n = refl

pub occurrences-yes : (n x : ℕ) (xs : List ℕ) → eqb n x ≡ true → occurrences n (x ∷ xs) ≡ suc (occurrences n xs)
unfolding occurrences
occurrences-yes n x xs e = rw (e, occurrences)

pub occurrences_no : (n x : ℕ) (xs : List ℕ) → eqb n x ≡ false → occurrences n (x ∷ xs) ≡ occurrences n xs
unfolding occurrences
occurrences_no n x xs e = rw (e, occurrences)

pub occurrences-append : (n : ℕ) (xs ys : List ℕ) → occurrences n (xs ++ ys) ≡ occurrences n xs + occurrences n ys
occurrences-append n [] ys = rw (occurrences-nil n) (omega arith)
occurrences-append n (x ∷ xs) ys =
    let rest = occurrences-append n xs ys in
    cases (eqb n x)
    (λ e. omega (arith, occurrences-yes n x (xs ++ ys) e, occurrences-yes n x xs e))
    (λ e. omega (arith, occurrences_no n x (xs ++ ys) e, occurrences_no n x xs e))

pub occurrences-none : (n : ℕ) (xs : List ℕ) → mem n xs ≡ false → occurrences n xs ≡ 0
occurrences-none n [] h = occurrences-nil n
occurrences-none n (x ∷ xs) h =
    cases (eqb n x) (λ e. clash (mem n (x ∷ xs)) (mem-yes n x xs e) h) (λ e. occurrences_no n x xs e ∙ occurrences-none n xs (sym (mem_no n x xs e) ∙ h))

pub occurrences-some : (n : ℕ) (xs : List ℕ) → mem n xs ≡ true → 0 < occurrences n xs
occurrences-some n [] h = clash (mem n []) h (mem-nil n)
occurrences-some n (x ∷ xs) h =
    cases (eqb n x)
    (λ e. rw (occurrences-yes n x xs e) (omega arith))
    (λ e. rw (occurrences_no n x xs e) (occurrences-some n xs (sym (mem_no n x xs e) ∙ h)))

-- lists joined

module _ {ℓ κ} {A : Type ℓ} {B : Type κ} where
  pub joined_nil : (f : A → List B) → joined f [] ≡ []
  unfolding joined
  joined_nil f = refl

  pub joined_cons : (f : A → List B) (x : A) (xs : List A) → joined f (x ∷ xs) ≡ f x ++ joined f xs
  unfolding joined
  joined_cons f x xs = refl

  pub joined_append : (f : A → List B) (xs ys : List A) → joined f (xs ++ ys) ≡ joined f xs ++ joined f ys
  joined_append f [] ys = rw (joined_nil f)
  joined_append f (x ∷ xs) ys =
      joined_cons f x (xs ++ ys) ∙ ap (λ (l : List B). f x ++ l) (joined_append f xs ys)
      ∙ sym (append_assoc (f x) (joined f xs) (joined f ys))
      ∙ ap (λ (l : List B). l ++ joined f ys) (sym (joined_cons f x xs))

-- a range begun at p

pub up_from_more : (p n : ℕ) → p < n → up_from p (n - p) ≡ p ∷ up_from (p + 1) (n - (p + 1))
unfolding up_from
up_from_more p n h = let z : n - p ≡ suc (n - (p + 1)) = omega arith in rw (z, add-one p) refl

pub up_from_end : (p n : ℕ) → n ≤ p → up_from p (n - p) ≡ []
unfolding up_from
up_from_end p n h = let z : n - p ≡ 0 = omega arith in rw z refl

pub joined_members : (f g : ℕ → List ℕ) (xs : List ℕ) → ((x : ℕ) → mem x xs ≡ true → f x ≡ g x) → joined f xs ≡ joined g xs
joined_members f g [] h = joined_nil f ∙ sym (joined_nil g)
joined_members f g (x ∷ xs) h =
    let rest = joined_members f g xs (λ y m. h y (mem-cons_there y x xs m)) in
    joined_cons f x xs ∙ rw (h x (mem-cons_here x xs), rest) (sym (joined_cons g x xs))
