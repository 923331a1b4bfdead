-- Laws of the chains of specs/Words: what a name by the rule gives, that the steps never run out, a chain step by step, its members.
use mathlib.Core.Path.{◌≡◌, refl, sym, ap, ◌∙◌}
use mathlib.Core.Bool.{Bool, true, false, ◌&&◌, ◌||◌, not}
use mathlib.Core.List.{List, [], ◌∷◌}
use mathlib.Core.Logic.{◌⊎◌, inl, inr, ⊎_elim}
use Prim.Native.Nat.{ℕ, zero, suc, ◌+◌, ◌≤◌, ◌<◌}
use native.Mathlib.Omega.{arith}
use lib.Dec.{eqb, ltb, leb}
use borrow.Author.Tests.{eqb-true, eqb-false, ne_eqb, ltb-true, lt-ltb, leb-true, le-leb, not-false}
use Rattle.lr1_base.specs.repr.Lists.{mem, occurrences}
use Rattle.lr1_base.proofs.repr.Lists.{cases, clash, mem-nil, mem_no, mem-cons_here, mem-cons_there, occurrences-yes, occurrences_no, occurrences-none}
use Rattle.table.specs.Words.{word_at, records, loose, Area, production_records, loose_records, names, against, chain_by, chain}
use Rattle.lr1_base.proofs.laws.Bools.{and-true}

-- two tests

pub or-false : (a b : Bool) → a || b ≡ false → (a ≡ false) × (b ≡ false)
or-false true b e = clash true refl e
or-false false b e = (refl, e)

pub or_left : (a b : Bool) → a ≡ true → a || b ≡ true
or_left a b e = rw e

pub or_right : (a b : Bool) → b ≡ true → a || b ≡ true
or_right true b e = refl
or_right false b e = e

-- a name by the rule

pub record Named (a : Area) (r x : ℕ) : Type 0 where
  pub inside : a.from ≤ x
  pub early : x < a.past
  pub later : r < x

pub named : (a : Area) (r x : ℕ) → names a r x ≡ true → Named a r x
unfolding names
named a r x e =
    let p = and-true (leb a.from x) (ltb x a.past && ltb r x) e in
    let q = and-true (ltb x a.past) (ltb r x) p.1 in
    record { inside = leb-true a.from x p.0; early = ltb-true x a.past q.0; later = ltb-true r x q.1 }

pub names_good : (a : Area) (r x : ℕ) → a.from ≤ x → x < a.past → r < x → names a r x ≡ true
unfolding names
names_good a r x h l g = rw (le-leb a.from x h, lt-ltb x a.past l, lt-ltb r x g)

-- an index that is not against the rule is 0 or good
pub against-zero : (a : Area) (r : ℕ) → against a r 0 ≡ false
unfolding against
against-zero a r = refl

pub against_is : (a : Area) (r x : ℕ) → (x ≡ 0 → ⊥) → against a r x ≡ not (names a r x)
unfolding against
against_is a r x ne = rw (ne_eqb x 0 ne)

pub against_good : (a : Area) (r x : ℕ) → names a r x ≡ true → against a r x ≡ false
unfolding against
against_good a r x e = rw e (cases (not (eqb x 0)) (λ q. rw q) (λ q. rw q))

pub good_of : (a : Area) (r x : ℕ) → against a r x ≡ false → (x ≡ 0 → ⊥) → names a r x ≡ true
good_of a r x e ne = not-false (names a r x) (sym (against_is a r x ne) ∙ e)

-- one step, of any bound on the steps

pub by_end : (f : ℕ) (t : List ℕ) (a : Area) (r : ℕ) → chain_by f t a r 0 ≡ []
unfolding chain_by
by_end zero t a r = refl
by_end (suc f) t a r = refl

pub by_none : (f : ℕ) (t : List ℕ) (a : Area) (r x : ℕ) → names a r x ≡ false → chain_by f t a r x ≡ []
unfolding chain_by
by_none zero t a r x e = refl
by_none (suc f) t a r x e = rw (e, chain_by) (cases (eqb x 0) (λ q. rw (q, chain_by)) (λ q. rw (q, chain_by)))

pub by_step : (f : ℕ) (t : List ℕ) (a : Area) (r x : ℕ) → (x ≡ 0 → ⊥) → names a r x ≡ true → chain_by (suc f) t a r x ≡ x ∷ chain_by f t a x (word_at t x 0)
unfolding chain_by
by_step f t a r x ne e = rw (ne_eqb x 0 ne, e, chain_by)

-- which of the three
abbrev pub Way : ℕ → List ℕ → Area → ℕ → ℕ → Type 0
Way f t a r x = (chain_by (suc f) t a r x ≡ []) ⊎ ((x ≡ 0 → ⊥) × (names a r x ≡ true) × (chain_by (suc f) t a r x ≡ x ∷ chain_by f t a x (word_at t x 0)))

pub by_way : (f : ℕ) (t : List ℕ) (a : Area) (r x : ℕ) → Way f t a r x
by_way f t a r x =
    cases (eqb x 0)
    (λ q. inl (ap (chain_by (suc f) t a r) (eqb-true x 0 q) ∙ by_end (suc f) t a r))
    (λ q. cases (names a r x) (λ e. inr (eqb-false x 0 q, e, by_step f t a r x (eqb-false x 0 q) e)) (λ e. inl (by_none (suc f) t a r x e)))

by_nil : (t : List ℕ) (a : Area) (r x : ℕ) → chain_by zero t a r x ≡ []
unfolding chain_by
by_nil t a r x = refl

-- nothing can be named
short : (f : ℕ) (t : List ℕ) (a : Area) (r x : ℕ) → a.past ≤ suc r → chain_by f t a r x ≡ []
short f t a r x h = by_none f t a r x (cases (names a r x) (λ e. let n = named a r x e in absurd (omega arith)) (λ e. e))

-- the steps never run out: two bounds that reach the end of the area give the same chain
pub by_same : (f g : ℕ) (t : List ℕ) (a : Area) (r x : ℕ) → a.past ≤ suc (f + r) → a.past ≤ suc (g + r) → chain_by f t a r x ≡ chain_by g t a r x
by_same zero g t a r x h k = short zero t a r x (omega arith) ∙ sym (short g t a r x (omega arith))
by_same (suc f) zero t a r x h k = short (suc f) t a r x (omega arith) ∙ sym (short zero t a r x (omega arith))
by_same (suc f) (suc g) t a r x h k =
    cases (eqb x 0)
    (λ q.
    let z = eqb-true x 0 q in
    ap (chain_by (suc f) t a r) z ∙ by_end (suc f) t a r ∙ sym (by_end (suc g) t a r) ∙ sym (ap (chain_by (suc g) t a r) z))
    (λ q.
    cases (names a r x)
    (λ e.
    let n = named a r x e in
    by_step f t a r x (eqb-false x 0 q) e
    ∙ ap (λ (l : List ℕ). x ∷ l) (by_same f g t a x (word_at t x 0) (omega arith) (omega arith))
    ∙ sym (by_step g t a r x (eqb-false x 0 q) e))
    (λ e. by_none (suc f) t a r x e ∙ sym (by_none (suc g) t a r x e)))

-- the members: in the area and after the holder; a chain that has one has its index as the first
module _ (t : List ℕ) (a : Area) where
  pub by_headed : (f r x y : ℕ) → mem y (chain_by (suc f) t a r x) ≡ true → (x ≡ 0 → ⊥) × (names a r x ≡ true) × (chain_by (suc f) t a r x ≡ x ∷ chain_by f t a x (word_at t x 0))
  by_headed f r x y m = ⊎_elim (λ e. clash (mem y []) (sym (ap (mem y) e) ∙ m) (mem-nil y)) (λ w. w) (by_way f t a r x)

  none-zero : (r x y : ℕ) → mem y (chain_by zero t a r x) ≡ false
  none-zero r x y = ap (mem y) (by_nil t a r x) ∙ mem-nil y

  pub by_member : (f r x y : ℕ) → mem y (chain_by f t a r x) ≡ true → Named a r y
  by_member zero r x y m = clash (mem y (chain_by zero t a r x)) m (none-zero r x y)
  by_member (suc f) r x y m =
      let w = by_headed f r x y m in
      let n = named a r x w.1 in
      let later : mem y (x ∷ chain_by f t a x (word_at t x 0)) ≡ true = sym (ap (mem y) w.2) ∙ m in
      cases (eqb y x)
      (λ q. let e = eqb-true y x q in record { inside = omega arith; early = omega arith; later = omega arith })
      (λ q.
      let k = by_member f x (word_at t x 0) y (sym (mem_no y x (chain_by f t a x (word_at t x 0)) q) ∙ later) in
      record { inside = k.inside; early = k.early; later = omega arith })

  -- each but once
  pub by_once : (f r x y : ℕ) → mem y (chain_by f t a r x) ≡ true → occurrences y (chain_by f t a r x) ≡ 1
  by_once zero r x y m = clash (mem y (chain_by zero t a r x)) m (none-zero r x y)
  by_once (suc f) r x y m =
      let w = by_headed f r x y m in
      let rest : List ℕ = chain_by f t a x (word_at t x 0) in
      let more : mem y (x ∷ chain_by f t a x (word_at t x 0)) ≡ true = sym (ap (mem y) w.2) ∙ m in
      ap (occurrences y) w.2
      ∙ cases (eqb y x)
      (λ q.
      let e = eqb-true y x q in
      occurrences-yes y x rest q
      ∙ ap suc (occurrences-none y rest (cases (mem y rest) (λ i. let k = by_member f x (word_at t x 0) y i in absurd (omega arith)) (λ i. i))))
      (λ q. occurrences_no y x rest q ∙ by_once f x (word_at t x 0) y (sym (mem_no y x rest q) ∙ more))

  -- closed under good next indexes
  pub by_closed : (f r x z : ℕ) → a.past ≤ suc (f + r) → mem z (chain_by f t a r x) ≡ true → (word_at t z 0 ≡ 0 → ⊥) → names a z (word_at t z 0) ≡ true
      → mem (word_at t z 0) (chain_by f t a r x) ≡ true
  by_closed zero r x z h m ne g = clash (mem z (chain_by zero t a r x)) m (none-zero r x z)
  by_closed (suc f) r x z h m ne g =
      let w = by_headed f r x z m in
      let n = named a r x w.1 in
      let rest : List ℕ = chain_by f t a x (word_at t x 0) in
      let more : mem z (x ∷ chain_by f t a x (word_at t x 0)) ≡ true = sym (ap (mem z) w.2) ∙ m in
      ap (mem (word_at t z 0)) w.2
      ∙ mem-cons_there (word_at t z 0) x rest (cases (eqb z x)
      (λ q. first f x z (eqb-true z x q) (omega arith) ne g)
      (λ q. by_closed f x (word_at t x 0) z (omega arith) (sym (mem_no z x rest q) ∙ more) ne g))
    where
      first : (f x z : ℕ) → z ≡ x → a.past ≤ suc (f + x) → (word_at t z 0 ≡ 0 → ⊥) → names a z (word_at t z 0) ≡ true → mem (word_at t z 0) (chain_by f t a x (word_at t x 0)) ≡ true
      first zero x z q h ne g = let n = named a z (word_at t z 0) g in absurd (omega arith)
      first (suc f) x z q h ne g =
          rw (← q) (ap (mem (word_at t z 0)) (by_step f t a z (word_at t z 0) ne g) ∙ mem-cons_here (word_at t z 0) (chain_by f t a (word_at t z 0) (word_at t (word_at t z 0) 0)))

  -- what holds of a good index and passes to a good next index holds of each member
  pub by_induct : {P : ℕ → Type 0} (f r x : ℕ) → ((x ≡ 0 → ⊥) → names a r x ≡ true → P x)
      → ((z : ℕ) → mem z (chain_by f t a r x) ≡ true → P z → (word_at t z 0 ≡ 0 → ⊥) → names a z (word_at t z 0) ≡ true → P (word_at t z 0))
      → (y : ℕ) → mem y (chain_by f t a r x) ≡ true → P y
  by_induct zero r x start on y m = clash (mem y (chain_by zero t a r x)) m (none-zero r x y)
  by_induct {P} (suc f) r x start on y m =
      let w = by_headed f r x y m in
      let rest : List ℕ = chain_by f t a x (word_at t x 0) in
      let within : (z : ℕ) → mem z (x ∷ rest) ≡ true → mem z (chain_by (suc f) t a r x) ≡ true = λ z i. ap (mem z) w.2 ∙ i in
      let more : mem y (x ∷ rest) ≡ true = sym (ap (mem y) w.2) ∙ m in
      cases (eqb y x)
      (λ q. rw (eqb-true y x q) (start w.0 w.1))
      (λ q.
      by_induct {P = P} f x (word_at t x 0)
      (λ ne g. on x (within x (mem-cons_here x rest)) (start w.0 w.1) ne g)
      (λ z i p ne g. on z (within z (mem-cons_there z x rest i)) p ne g)
      y
      (sym (mem_no y x rest q) ∙ more))

-- a whole chain; its laws are of an area that ends within the table (`loose-whole`, `production-whole`)

-- any larger bound gives the same
pub chain-whole : (f : ℕ) (t : List ℕ) (a : Area) (r x : ℕ) → a.past ≤ records t → records t ≤ f → chain t a r x ≡ chain_by f t a r x
unfolding chain
chain-whole f t a r x h l = by_same (records t) f t a r x (omega arith) (omega arith)

module _ (t : List ℕ) (a : Area) where
  pub chain_end : (r : ℕ) → chain t a r 0 ≡ []
  unfolding chain
  chain_end r = by_end (records t) t a r

  pub chain-none : (r x : ℕ) → names a r x ≡ false → chain t a r x ≡ []
  unfolding chain
  chain-none r x e = by_none (records t) t a r x e

  -- the members: in the area and after the holder, each but once
  pub chain_member : (r x y : ℕ) → mem y (chain t a r x) ≡ true → Named a r y
  unfolding chain
  chain_member r x y m = by_member t a (records t) r x y m

  pub chain-once : (r x y : ℕ) → mem y (chain t a r x) ≡ true → occurrences y (chain t a r x) ≡ 1
  unfolding chain
  chain-once r x y m = by_once t a (records t) r x y m

  -- from the index on, by good next indexes
  pub chain_induct : {P : ℕ → Type 0} (r x : ℕ) → ((x ≡ 0 → ⊥) → names a r x ≡ true → P x)
      → ((z : ℕ) → mem z (chain t a r x) ≡ true → P z → (word_at t z 0 ≡ 0 → ⊥) → names a z (word_at t z 0) ≡ true → P (word_at t z 0))
      → (y : ℕ) → mem y (chain t a r x) ≡ true → P y
  unfolding chain
  chain_induct {P} r x start on y m = by_induct t a {P = P} (records t) r x start on y m

  module _ (whole : a.past ≤ records t) where
    pub chain-step : (r x : ℕ) → (x ≡ 0 → ⊥) → names a r x ≡ true → chain t a r x ≡ x ∷ chain t a x (word_at t x 0)
    unfolding chain
    chain-step r x ne e =
        let n = named a r x e in
        by_same (records t) (suc (records t)) t a r x (omega arith) (omega arith) ∙ by_step (records t) t a r x ne e

    -- the holder does not matter where the index is good
    pub chain_holder : (r q x : ℕ) → (x ≡ 0 → ⊥) → names a r x ≡ true → q ≤ r → chain t a r x ≡ chain t a q x
    chain_holder r q x ne e h =
        let n = named a r x e in
        chain-step r x ne e ∙ sym (chain-step q x ne (names_good a q x n.inside n.early (omega arith)))

    pub chain-from : (r x : ℕ) → against a r x ≡ false → chain t a r x ≡ chain t a 0 x
    chain-from r x e =
        cases (eqb x 0)
        (λ q. let z = eqb-true x 0 q in ap (chain t a r) z ∙ chain_end r ∙ sym (chain_end 0) ∙ sym (ap (chain t a 0) z))
        (λ q. chain_holder r 0 x (eqb-false x 0 q) (good_of a r x e (eqb-false x 0 q)) (omega arith))

    -- a good index is the first of its chain, and a member's good next is a member
    pub chain_first : (r x : ℕ) → (x ≡ 0 → ⊥) → names a r x ≡ true → mem x (chain t a r x) ≡ true
    chain_first r x ne e = ap (mem x) (chain-step r x ne e) ∙ mem-cons_here x (chain t a x (word_at t x 0))

    pub chain-closed : (r x z : ℕ) → mem z (chain t a r x) ≡ true → (word_at t z 0 ≡ 0 → ⊥) → names a z (word_at t z 0) ≡ true → mem (word_at t z 0) (chain t a r x) ≡ true
    unfolding chain
    chain-closed r x z m ne g = by_closed t a (records t) r x z (omega arith) m ne g

-- the areas

pub loose-whole : (t : List ℕ) → (loose_records t).past ≤ records t
unfolding loose_records
loose-whole t = omega arith

pub production-whole : (t : List ℕ) → loose t ≤ records t → (production_records t).past ≤ records t
unfolding production_records
production-whole t h = h
