-- The list of conflicts and the pairs written ascend strictly, so nothing is listed twice: `conflicts_ascend`, `written_ascend`.
use mathlib.Core.Path.{◌≡◌, refl, sym, ◌∙◌}
use mathlib.Core.Bool.{Bool, ◌&&◌, not}
use mathlib.Core.List.Memᴰ
use mathlib.Core.List.{List, [], ◌∷◌, ◌++◌, map, Memᴰ}
use mathlib.Core.Logic.{inl, inr, ⊎_elim}
use Prim.Native.Nat.{ℕ, zero, suc, ◌/◌, ◌≤◌, ◌<◌}
use native.Mathlib.Omega.{arith}
use lib.Dec.{eqb, ltb}
use lib.ListN.{length, get_or}
use borrow.Author.Tests.{ltb-true, ltb-false}
use Rattle.lr1_base.specs.repr.Sizes.{index_limit}
use Rattle.lr1_base.specs.repr.Lists.{up_from, below, keep, joined}
use Rattle.lr1_base.specs.repr.Meaning.{Table}
use Rattle.lr1_base.proofs.repr.Lists.{cases, keep-yes, keep_no}
use Rattle.lr1_base.specs.lookahead.Tokens.{has, meet, members}
use Rattle.lr1_states.specs.canonical.Canonical.{Clash, Before, ItemBefore, Ascends}
use Rattle.lr1_states.specs.canonical.States.{reduces, shifts, clashes_of, clashes, written}
use Rattle.lr1_states.proofs.canonical.Members.{keep_out, map-out, joined_from}
use Rattle.lr1_states.proofs.canonical.Closure.{item}

abbrev Less : ℕ → ℕ → Type 0
Less x y = x < y

module _ {A : Type 0} (R : A → A → Type 0) where
  ascends_append : (xs ys : List A) → Ascends R xs → Ascends R ys → ((x y : A) → Memᴰ x xs → Memᴰ y ys → R x y) → Ascends R (xs ++ ys)
  unfolding Ascends
  ascends_append [] ys f g h = g
  ascends_append (x ∷ xs) ys f g h = (
    λ y m. ⊎_elim (f.0 y) (h x y (Memᴰ.head refl)) (Memᴰ.append_cases xs m),
    ascends_append xs ys f.1 g (λ x' y m n. h x' y (Memᴰ.tail m) n),
  )

  ascends_keep : (t : A → Bool) (xs : List A) → Ascends R xs → Ascends R (keep t xs)
  unfolding Ascends keep
  ascends_keep t [] f = tt
  ascends_keep t (x ∷ xs) f =
      let more = ascends_keep t xs f.1 in
      cases (t x)
      (λ u. rw (keep-yes t x xs u) (λ y m. f.0 y (keep_out t y xs m).0, more))
      (λ u. rw (keep_no t x xs u) more)

module _ {A : Type 0} {B : Type 0} (R : A → A → Type 0) (Q : B → B → Type 0) where
  ascends_map : (f : A → B) → ((x y : A) → R x y → Q (f x) (f y)) → (xs : List A) → Ascends R xs → Ascends Q (map f xs)
  unfolding Ascends
  ascends_map f h [] a = tt
  ascends_map f h (x ∷ xs) a =
      (λ y m. let r = map-out f y xs m in rw r.2 (h x r.0 (a.0 r.0 r.1)), ascends_map f h xs a.1)

  ascends_joined : (f : A → List B) → ((x : A) → Ascends Q (f x)) → ((x x' : A) (y y' : B) → R x x' → Memᴰ y (f x) → Memᴰ y' (f x') → Q y y')
      → (xs : List A) → Ascends R xs → Ascends Q (joined f xs)
  unfolding Ascends joined
  ascends_joined f own across [] a = tt
  ascends_joined f own across (x ∷ xs) a =
      ascends_append Q (f x) (joined f xs) (own x) (ascends_joined f own across xs a.1)
      (λ y y' m n. let r = joined_from f xs y' n in across x r.0 y y' (a.0 r.0 r.1) m r.2)

from_up : (n k y : ℕ) → Memᴰ y (up_from k n) → k ≤ y
unfolding up_from
from_up zero k y m = absurd (Memᴰ.not-nil m)
from_up (suc n) k y m =
    let more = from_up n (suc k) y in
    ⊎_elim (λ e. omega (arith, e)) (λ i. omega (arith, more i)) (Memᴰ.cases_cons m)

ascends_up : (n k : ℕ) → Ascends Less (up_from k n)
unfolding up_from Ascends
ascends_up zero k = tt
ascends_up (suc n) k = (λ y m. from_up n (suc k) y m, ascends_up n (suc k))

ascends_below : (n : ℕ) → Ascends Less (below n)
unfolding below
ascends_below n = ascends_up n 0

module _ (T : Table) (S : List ℕ) where
  abbrev shifting : ℕ → List Clash
  shifting p = map (λ t. record { production = p; action = 0; other = t; token = t }) (keep (λ t. has (reduces T S p) t && shifts T S t) (below T.terminals))

  abbrev reducing : ℕ → ℕ → List Clash
  reducing p q = map (λ a. record { production = p; action = 1; other = q; token = a }) (members (meet (reduces T S p) (reduces T S q)))

  abbrev others : ℕ → List ℕ
  others p = keep (ltb p) (below (length T.productions))

  shifting_is : (p : ℕ) (c : Clash) → Memᴰ c (shifting p) → (c.production ≡ p) × (c.action ≡ 0)
  shifting_is p c m =
      let r = map-out (λ t. record { production = p; action = 0; other = t; token = t }) c (keep (λ t. has (reduces T S p) t && shifts T S t) (below T.terminals)) m in
      rw r.2 (refl, refl)

  reducing_is : (p q : ℕ) (c : Clash) → Memᴰ c (reducing p q) → (c.production ≡ p) × (c.action ≡ 1) × (c.other ≡ q)
  reducing_is p q c m =
      let r = map-out (λ a. record { production = p; action = 1; other = q; token = a }) c (members (meet (reduces T S p) (reduces T S q))) m in
      rw r.2 (refl, refl, refl)

  shifting_ascends : (p : ℕ) → Ascends Before (shifting p)
  shifting_ascends p =
      ascends_map Less Before (λ t. record { production = p; action = 0; other = t; token = t }) (λ x y h. inr (refl, inr (refl, inl h)))
      (keep (λ t. has (reduces T S p) t && shifts T S t) (below T.terminals))
      (ascends_keep Less (λ t. has (reduces T S p) t && shifts T S t) (below T.terminals) (ascends_below T.terminals))

  reducing_ascends : (p q : ℕ) → Ascends Before (reducing p q)
  unfolding members
  reducing_ascends p q =
      ascends_map Less Before (λ a. record { production = p; action = 1; other = q; token = a }) (λ x y h. inr (refl, inr (refl, inr (refl, h))))
      (keep (has (meet (reduces T S p) (reduces T S q))) (below 64)) (ascends_keep Less (has (meet (reduces T S p) (reduces T S q))) (below 64) (ascends_below 64))

  reductions_ascend : (p : ℕ) → Ascends Before (joined (reducing p) (others p))
  reductions_ascend p =
      ascends_joined Less Before (reducing p) (reducing_ascends p)
      (λ q q' y y' h m n.
      let a = reducing_is p q y m in
      let b = reducing_is p q' y' n in
      inr (a.0 ∙ sym b.0, inr (a.1 ∙ sym b.1, inl (omega (arith, a.2, b.2, h)))))
      (others p) (ascends_keep Less (ltb p) (below (length T.productions)) (ascends_below (length T.productions)))

  of_production : (p : ℕ) (c : Clash) → Memᴰ c (clashes_of T S p) → c.production ≡ p
  unfolding clashes_of
  of_production p c m =
      ⊎_elim
      (λ i. (shifting_is p c i).0)
      (λ i. let r = joined_from (reducing p) (others p) c i in (reducing_is p r.0 c r.2).0)
      (Memᴰ.append_cases (shifting p) m)

  of_ascends : (p : ℕ) → Ascends Before (clashes_of T S p)
  unfolding clashes_of
  of_ascends p =
      ascends_append Before (shifting p) (joined (reducing p) (others p)) (shifting_ascends p) (reductions_ascend p) (λ x y m n.
      let a = shifting_is p x m in
      let r = joined_from (reducing p) (others p) y n in
      let b = reducing_is p r.0 y r.2 in
      inr (a.0 ∙ sym b.0, inl (omega (arith, a.1, b.1))))

  pub conflicts_ascend : Ascends Before (clashes T S)
  unfolding clashes
  conflicts_ascend =
      ascends_joined Less Before (clashes_of T S) of_ascends
      (λ p q c d h m n. inl (omega (arith, of_production p c m, of_production q d n, h)))
      (below (length T.productions)) (ascends_below (length T.productions))

pub written_ascend : (S : List ℕ) → Ascends ItemBefore (written S)
unfolding written
written_ascend S =
    ascends_map Less ItemBefore item (λ x y h. cases (ltb (x / index_limit) (y / index_limit))
    (λ t. inl (ltb-true (x / index_limit) (y / index_limit) t))
    (λ t. let l = ltb-false (x / index_limit) (y / index_limit) t in inr (omega arith, omega arith)))
    (keep (λ x. not (eqb (get_or S x 0) 0)) (below (length S)))
    (ascends_keep Less (λ x. not (eqb (get_or S x 0) 0)) (below (length S)) (ascends_below (length S)))
