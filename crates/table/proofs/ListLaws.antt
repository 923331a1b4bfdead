-- Laws of plain lists that the decoding needs: members of a mapped list, a number in two of the lists joined.
use mathlib.Core.Path.{◌≡◌, sym, ◌∙◌}
use mathlib.Core.Bool.{true}
use mathlib.Core.List.{List, [], ◌∷◌, map}
use Prim.Native.Nat.{ℕ, zero, suc, ◌≤◌, ◌<◌}
use native.Mathlib.Omega.{arith}
use lib.ListN.{length, get_or}
use lib.Dec.{eqb, ltb}
use borrow.Author.Tests.{eqb-true, eqb-false, ltb-true, ltb-false}
use Rattle.lr1_base.specs.repr.Lists.{below, mem, occurrences, joined}
use Rattle.lr1_base.specs.repr.Meaning.{All}
use Rattle.lr1_base.proofs.repr.Lists.{cases, clash, length-below, get_d_below, mem-nil, mem_no, mem-cons_here, mem-cons_there, occurrences-append, occurrences-some, joined_cons}

pub mem-map_in : (f : ℕ → ℕ) (x : ℕ) (xs : List ℕ) → mem x xs ≡ true → mem (f x) (map f xs) ≡ true
mem-map_in f x [] m = clash (mem x []) m (mem-nil x)
mem-map_in f x (y ∷ ys) m =
    cases (eqb x y)
    (λ q. rw (eqb-true x y q) (mem-cons_here (f y) (map f ys)))
    (λ q. mem-cons_there (f x) (f y) (map f ys) (mem-map_in f x ys (sym (mem_no x y ys q) ∙ m)))

pub mem-map-out : (f : ℕ → ℕ) (y : ℕ) (xs : List ℕ) → mem y (map f xs) ≡ true → (x : ℕ) × (mem x xs ≡ true) × (f x ≡ y)
mem-map-out f y [] m = clash (mem y []) m (mem-nil y)
mem-map-out f y (x ∷ xs) m =
    cases (eqb y (f x))
    (λ q. (x, mem-cons_here x xs, sym (eqb-true y (f x) q)))
    (λ q. let r = mem-map-out f y xs (sym (mem_no y (f x) (map f xs) q) ∙ m) in (r.0, mem-cons_there r.0 x xs r.1, r.2))

-- what holds of the image of each member
pub all_map {ℓ} : {A : Type ℓ} (P : A → Type 0) (f : ℕ → A) (xs : List ℕ) → ((x : ℕ) → mem x xs ≡ true → P (f x)) → All P (map f xs)
unfolding All
all_map P f [] h = tt
all_map P f (x ∷ xs) h = (h x (mem-cons_here x xs), all_map P f xs (λ y m. h y (mem-cons_there y x xs m)))

-- a number in one, or in two, of the lists joined
pub joined_one : (f : ℕ → List ℕ) (y : ℕ) (xs : List ℕ) (j : ℕ) → j < length xs → mem y (f (get_or xs j 0)) ≡ true → 1 ≤ occurrences y (joined f xs)
joined_one f y [] j h m = absurd (omega arith)
joined_one f y (x ∷ xs) zero h m =
    let o = occurrences-some y (f x) m in
    rw (joined_cons f x xs, occurrences-append y (f x) (joined f xs)) (omega arith)
joined_one f y (x ∷ xs) (suc j) h m =
    let o = joined_one f y xs j (omega arith) m in
    rw (joined_cons f x xs, occurrences-append y (f x) (joined f xs)) (omega arith)

pub joined_two : (f : ℕ → List ℕ) (y : ℕ) (xs : List ℕ) (i j : ℕ) → i < j → j < length xs → mem y (f (get_or xs i 0)) ≡ true → mem y (f (get_or xs j 0)) ≡ true
    → 2 ≤ occurrences y (joined f xs)
joined_two f y [] i j l h m k = absurd (omega arith)
joined_two f y (x ∷ xs) i zero l h m k = absurd (omega arith)
joined_two f y (x ∷ xs) zero (suc j) l h m k =
    let o = occurrences-some y (f x) m in
    let p = joined_one f y xs j (omega arith) k in
    rw (joined_cons f x xs, occurrences-append y (f x) (joined f xs)) (omega arith)
joined_two f y (x ∷ xs) (suc i) (suc j) l h m k =
    let o = joined_two f y xs i j (omega arith) (omega arith) m k in
    rw (joined_cons f x xs, occurrences-append y (f x) (joined f xs)) (omega arith)

-- so of the lists below n a number that occurs once stands in one only
pub joined_only : (f : ℕ → List ℕ) (y n i j : ℕ) → occurrences y (joined f (below n)) ≡ 1 → i < n → j < n → mem y (f i) ≡ true → mem y (f j) ≡ true → i ≡ j
joined_only f y n i j o hi hj mi mj =
    let at : (k : ℕ) → k < n → mem y (f k) ≡ true → mem y (f (get_or (below n) k 0)) ≡ true = λ k h m. rw (get_d_below n k 0 h) m in
    let len = length-below n in
    cases (eqb i j)
    (eqb-true i j)
    (λ q.
    let ne = eqb-false i j q in
    cases (ltb i j)
    (λ l. let lt = ltb-true i j l in let two = joined_two f y (below n) i j lt (omega arith) (at i hi mi) (at j hj mj) in absurd (omega arith))
    (λ l. let le = ltb-false i j l in let two = joined_two f y (below n) j i (omega arith) (omega arith) (at j hj mj) (at i hi mi) in absurd (omega arith)))
