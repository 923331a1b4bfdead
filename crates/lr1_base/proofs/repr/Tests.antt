-- Laws of the tests of specs/repr/Lists over a list, `some?`, `every?` and `first?`, and of `All` of specs/repr/Meaning.
-- An element is named by its index, `get_or xs i d` with any default d; for numbers also by `mem`.
use mathlib.Core.Path.{◌≡◌, refl, sym, ap, ◌∙◌, subst}
use mathlib.Core.Bool.{Bool, true, false, ◌&&◌, ◌||◌}
use mathlib.Core.List.{List, [], ◌∷◌, ◌++◌, Memᴰ}
use mathlib.Core.Option.{Option, none, some}
use Prim.Native.Nat.{ℕ, zero, suc, ◌<◌}
use native.Mathlib.Omega.{arith}
use lib.ListN.{length, get_or, drop}
use borrow.Author.Tests.{ltb-true, lt-ltb}
use Rattle.lr1_base.specs.repr.Lists.{below, mem, some?, every?, first?, joined}
use Rattle.lr1_base.specs.repr.Meaning.{All}
use Rattle.lr1_base.proofs.repr.Lists.{cases, clash, length-below, get_d_below, mem_at, mem_index, mem-nil, mem-append, mem_below, joined_nil, joined_cons}

module _ {ℓ} {A : Type ℓ} where
  -- some

  pub some?-nil : (t : A → Bool) → some? t [] ≡ false
  unfolding some?
  some?-nil t = refl

  pub some?-yes : (t : A → Bool) (x : A) (xs : List A) → t x ≡ true → some? t (x ∷ xs) ≡ true
  unfolding some?
  some?-yes t x xs e = rw (e, some?)

  pub some?_no : (t : A → Bool) (x : A) (xs : List A) → t x ≡ false → some? t (x ∷ xs) ≡ some? t xs
  unfolding some?
  some?_no t x xs e = rw (e, some?)

  pub some?-cons : (t : A → Bool) (x : A) (xs : List A) → some? t (x ∷ xs) ≡ (t x || some? t xs)
  some?-cons t x xs = cases (t x) (λ e. some?-yes t x xs e ∙ rw e) (λ e. some?_no t x xs e ∙ rw e)

  pub some?-append : (t : A → Bool) (xs ys : List A) → some? t (xs ++ ys) ≡ (some? t xs || some? t ys)
  some?-append t [] ys = rw (some?-nil t)
  some?-append t (x ∷ xs) ys =
      let rest = some?-append t xs ys in
      cases (t x) (λ e. rw (some?-yes t x (xs ++ ys) e, some?-yes t x xs e)) (λ e. rw (some?_no t x (xs ++ ys) e, some?_no t x xs e) rest)

  pub some?_intro : (t : A → Bool) (xs : List A) (i : ℕ) (d : A) → i < length xs → t (get_or xs i d) ≡ true → some? t xs ≡ true
  some?_intro t [] i d h e = absurd (omega arith)
  some?_intro t (x ∷ xs) zero d h e = some?-yes t x xs e
  some?_intro t (x ∷ xs) (suc i) d h e = cases (t x) (some?-yes t x xs) (λ f. some?_no t x xs f ∙ some?_intro t xs i d (omega arith) e)

  pub some?_elim : (t : A → Bool) (xs : List A) (d : A) → some? t xs ≡ true → (i : ℕ) × (i < length xs) × (t (get_or xs i d) ≡ true)
  some?_elim t [] d h = clash (some? t []) h (some?-nil t)
  some?_elim t (x ∷ xs) d h =
      cases (t x) (λ e. (0, omega arith, e)) (λ e. let r = some?_elim t xs d (sym (some?_no t x xs e) ∙ h) in (suc r.0, omega (arith, r.1), r.2))

  -- every

  pub every?_nil : (t : A → Bool) → every? t [] ≡ true
  unfolding every?
  every?_nil t = refl

  pub every?_yes : (t : A → Bool) (x : A) (xs : List A) → t x ≡ true → every? t (x ∷ xs) ≡ every? t xs
  unfolding every?
  every?_yes t x xs e = rw (e, every?)

  pub every?_no : (t : A → Bool) (x : A) (xs : List A) → t x ≡ false → every? t (x ∷ xs) ≡ false
  unfolding every?
  every?_no t x xs e = rw (e, every?)

  pub every?_cons : (t : A → Bool) (x : A) (xs : List A) → every? t (x ∷ xs) ≡ (t x && every? t xs)
  every?_cons t x xs = cases (t x) (λ e. every?_yes t x xs e ∙ rw e) (λ e. every?_no t x xs e ∙ rw e)

  pub every?_append : (t : A → Bool) (xs ys : List A) → every? t (xs ++ ys) ≡ (every? t xs && every? t ys)
  every?_append t [] ys = rw (every?_nil t)
  every?_append t (x ∷ xs) ys =
      let rest = every?_append t xs ys in
      cases (t x) (λ e. rw (every?_yes t x (xs ++ ys) e, every?_yes t x xs e) rest) (λ e. rw (every?_no t x (xs ++ ys) e, every?_no t x xs e))

  pub every?_elim : (t : A → Bool) (xs : List A) (i : ℕ) (d : A) → every? t xs ≡ true → i < length xs → t (get_or xs i d) ≡ true
  every?_elim t [] i d h l = absurd (omega arith)
  every?_elim t (x ∷ xs) zero d h l = cases (t x) (λ e. e) (λ e. clash (every? t (x ∷ xs)) h (every?_no t x xs e))
  every?_elim t (x ∷ xs) (suc i) d h l =
      cases (t x) (λ e. every?_elim t xs i d (sym (every?_yes t x xs e) ∙ h) (omega arith)) (λ e. clash (every? t (x ∷ xs)) h (every?_no t x xs e))

  pub every?_intro : (t : A → Bool) (xs : List A) (d : A) → ((i : ℕ) → i < length xs → t (get_or xs i d) ≡ true) → every? t xs ≡ true
  every?_intro t [] d h = every?_nil t
  every?_intro t (x ∷ xs) d h = every?_yes t x xs (h 0 (omega arith)) ∙ every?_intro t xs d (λ i l. h (suc i) (omega arith))

  pub every?_fails : (t : A → Bool) (xs : List A) (d : A) → every? t xs ≡ false → (i : ℕ) × (i < length xs) × (t (get_or xs i d) ≡ false)
  every?_fails t [] d h = clash (every? t []) (every?_nil t) h
  every?_fails t (x ∷ xs) d h =
      cases (t x) (λ e. let r = every?_fails t xs d (sym (every?_yes t x xs e) ∙ h) in (suc r.0, omega (arith, r.1), r.2)) (λ e. (0, omega arith, e))

  -- the first

  pub first?-nil : (t : A → Bool) → first? t [] ≡ none
  unfolding first?
  first?-nil t = refl

  pub first?-yes : (t : A → Bool) (x : A) (xs : List A) → t x ≡ true → first? t (x ∷ xs) ≡ some x
  unfolding first?
  first?-yes t x xs e = rw (e, first?)

  pub first?_no : (t : A → Bool) (x : A) (xs : List A) → t x ≡ false → first? t (x ∷ xs) ≡ first? t xs
  unfolding first?
  first?_no t x xs e = rw (e, first?)

  -- it stands at an index, passes, and none earlier does
  pub first?_at : (t : A → Bool) (xs : List A) (x d : A) → first? t xs ≡ some x → (i : ℕ) × (i < length xs) × (get_or xs i d ≡ x) × (t x ≡ true) × ((j : ℕ) → j < i → t (get_or xs j d) ≡ false)
  first?_at t [] x d h = let z : ◌≡◌ {A = ℕ} 0 1 = cc (first?-nil t) in absurd (omega arith)
  first?_at t (y ∷ ys) x d h =
      cases (t y)
      (λ e. let q : y ≡ x = cc (first?-yes t y ys e) in (0, omega arith, q, ap t (sym q) ∙ e, λ j l. absurd (omega arith)))
      (λ e. let r = first?_at t ys x d (sym (first?_no t y ys e) ∙ h) in (suc r.0, omega (arith, r.1), r.2, r.3, earlier e r.0 r.4))
    where
      earlier : t y ≡ false → (i : ℕ) → ((j : ℕ) → j < i → t (get_or ys j d) ≡ false) → (j : ℕ) → j < suc i → t (get_or (y ∷ ys) j d) ≡ false
      earlier e i f zero l = e
      earlier e i f (suc j) l = f j (omega arith)

  pub first?-none : (t : A → Bool) (xs : List A) (i : ℕ) (d : A) → first? t xs ≡ none → i < length xs → t (get_or xs i d) ≡ false
  first?-none t [] i d h l = absurd (omega arith)
  first?-none t (x ∷ xs) zero d h l = cases (t x) (λ e. let z : ◌≡◌ {A = ℕ} 0 1 = cc (first?-yes t x xs e) in absurd (omega arith)) (λ e. e)
  first?-none t (x ∷ xs) (suc i) d h l =
      cases (t x)
      (λ e. let z : ◌≡◌ {A = ℕ} 0 1 = cc (first?-yes t x xs e) in absurd (omega arith))
      (λ e. first?-none t xs i d (sym (first?_no t x xs e) ∙ h) (omega arith))

  pub first?_intro : (t : A → Bool) (xs : List A) (i : ℕ) (d : A) → i < length xs → t (get_or xs i d) ≡ true → ((j : ℕ) → j < i → t (get_or xs j d) ≡ false) → first? t xs ≡ some (get_or xs i d)
  first?_intro t [] i d l e h = absurd (omega arith)
  first?_intro t (x ∷ xs) zero d l e h = first?-yes t x xs e
  first?_intro t (x ∷ xs) (suc i) d l e h =
      first?_no t x xs (h 0 (omega arith)) ∙ first?_intro t xs i d (omega arith) e (λ j m. h (suc j) (omega arith))

  pub first?-none_intro : (t : A → Bool) (xs : List A) (d : A) → ((i : ℕ) → i < length xs → t (get_or xs i d) ≡ false) → first? t xs ≡ none
  first?-none_intro t [] d h = first?-nil t
  first?-none_intro t (x ∷ xs) d h = first?_no t x xs (h 0 (omega arith)) ∙ first?-none_intro t xs d (λ i l. h (suc i) (omega arith))

  -- `All`

  pub All_at : (P : A → Type 0) (xs : List A) (i : ℕ) (d : A) → All P xs → i < length xs → P (get_or xs i d)
  unfolding All
  All_at P [] i d h l = absurd (omega arith)
  All_at P (x ∷ xs) zero d h l = h.0
  All_at P (x ∷ xs) (suc i) d h l = All_at P xs i d h.1 (omega arith)

  pub All_intro : (P : A → Type 0) (xs : List A) (d : A) → ((i : ℕ) → i < length xs → P (get_or xs i d)) → All P xs
  unfolding All
  All_intro P [] d h = tt
  All_intro P (x ∷ xs) d h = (h 0 (omega arith), All_intro P xs d (λ i l. h (suc i) (omega arith)))

  pub All_member : (P : A → Type 0) {x : A} {xs : List A} → All P xs → Memᴰ x xs → P x
  unfolding All
  All_member P h (Memᴰ.head e) = subst P (sym e) h.0
  All_member P h (Memᴰ.tail m) = All_member P h.1 m

  pub All-map : (P Q : A → Type 0) → ((x : A) → P x → Q x) → (xs : List A) → All P xs → All Q xs
  unfolding All
  All-map P Q f [] h = tt
  All-map P Q f (x ∷ xs) h = (f x h.0, All-map P Q f xs h.1)

  pub All-append : (P : A → Type 0) (xs ys : List A) → All P xs → All P ys → All P (xs ++ ys)
  unfolding All
  All-append P [] ys a b = b
  All-append P (x ∷ xs) ys a b = (a.0, All-append P xs ys a.1 b)

  pub All-drop : (P : A → Type 0) (k : ℕ) (xs : List A) → All P xs → All P (drop k xs)
  unfolding All
  All-drop P zero xs h = h
  All-drop P (suc k) [] h = tt
  All-drop P (suc k) (x ∷ xs) h = All-drop P k xs h.1

-- numbers, by membership

pub some?_member : (t : ℕ → Bool) (xs : List ℕ) (n : ℕ) → mem n xs ≡ true → t n ≡ true → some? t xs ≡ true
some?_member t xs n m e = let r = mem_index n xs 0 m in some?_intro t xs r.0 0 r.1 (ap t r.2 ∙ e)

pub some?_witness : (t : ℕ → Bool) (xs : List ℕ) → some? t xs ≡ true → (n : ℕ) × (mem n xs ≡ true) × (t n ≡ true)
some?_witness t xs h = let r = some?_elim t xs 0 h in (get_or xs r.0 0, mem_at xs r.0 0 r.1, r.2)

pub every?_member : (t : ℕ → Bool) (xs : List ℕ) (n : ℕ) → every? t xs ≡ true → mem n xs ≡ true → t n ≡ true
every?_member t xs n h m = let r = mem_index n xs 0 m in sym (ap t r.2) ∙ every?_elim t xs r.0 0 h r.1

pub every?_members : (t : ℕ → Bool) (xs : List ℕ) → ((n : ℕ) → mem n xs ≡ true → t n ≡ true) → every? t xs ≡ true
every?_members t xs h = every?_intro t xs 0 (λ i l. h (get_or xs i 0) (mem_at xs i 0 l))

pub some?-below : (t : ℕ → Bool) (n k : ℕ) → k < n → t k ≡ true → some? t (below n) ≡ true
some?-below t n k h e = some?_member t (below n) k (mem_below k n ∙ lt-ltb k n h) e

pub some?-below_witness : (t : ℕ → Bool) (n : ℕ) → some? t (below n) ≡ true → (k : ℕ) × (k < n) × (t k ≡ true)
some?-below_witness t n h = let r = some?_witness t (below n) h in (r.0, ltb-true r.0 n (sym (mem_below r.0 n) ∙ r.1), r.2)

pub every?_below : (t : ℕ → Bool) (n k : ℕ) → every? t (below n) ≡ true → k < n → t k ≡ true
every?_below t n k h l = every?_member t (below n) k h (mem_below k n ∙ lt-ltb k n l)

pub every?_below_intro : (t : ℕ → Bool) (n : ℕ) → ((k : ℕ) → k < n → t k ≡ true) → every? t (below n) ≡ true
every?_below_intro t n h = every?_members t (below n) (λ k m. h k (ltb-true k n (sym (mem_below k n) ∙ m)))

-- the first of a range is the least
pub first?-below : (t : ℕ → Bool) (n k : ℕ) → first? t (below n) ≡ some k → (k < n) × (t k ≡ true) × ((j : ℕ) → j < k → t j ≡ false)
first?-below t n k h =
    let r = first?_at t (below n) k 0 h in
    let l : r.0 < n = rw (length-below n) at r.1 in
    let q : r.0 ≡ k = sym (get_d_below n r.0 0 l) ∙ r.2 in
    (omega arith, r.3, λ j m. sym (ap t (get_d_below n j 0 (omega arith))) ∙ r.4 j (omega arith))

pub first?-below_intro : (t : ℕ → Bool) (n k : ℕ) → k < n → t k ≡ true → ((j : ℕ) → j < k → t j ≡ false) → first? t (below n) ≡ some k
first?-below_intro t n k l e h =
    first?_intro t (below n) k 0 (rw (length-below n) l) (ap t (get_d_below n k 0 l) ∙ e) (λ j m. ap t (get_d_below n j 0 (omega arith)) ∙ h j m)
    ∙ ap {B = Option ℕ} some (get_d_below n k 0 l)

pub first?-below-none : (t : ℕ → Bool) (n k : ℕ) → first? t (below n) ≡ none → k < n → t k ≡ false
first?-below-none t n k h l = sym (ap t (get_d_below n k 0 l)) ∙ first?-none t (below n) k 0 h (rw (length-below n) l)

pub mem-joined {ℓ} : {A : Type ℓ} (f : A → List ℕ) (n : ℕ) (xs : List A) → mem n (joined f xs) ≡ some? (λ x. mem n (f x)) xs
mem-joined f n [] = ap (mem n) (joined_nil f) ∙ mem-nil n ∙ sym (some?-nil (λ x. mem n (f x)))
mem-joined f n (x ∷ xs) =
    ap (mem n) (joined_cons f x xs) ∙ mem-append n (f x) (joined f xs)
    ∙ ap (λ (b : Bool). mem n (f x) || b) (mem-joined f n xs)
    ∙ sym (some?-cons (λ y. mem n (f y)) x xs)
