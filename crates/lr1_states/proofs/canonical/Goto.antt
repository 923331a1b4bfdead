-- Moving over a symbol, the first state and the empty set: `goto_exact`, `start_exact`, `nothing-exact`.
use mathlib.Core.Path.{◌≡◌, refl, sym, ap, ◌∙◌}
use mathlib.Core.Bool.{true, false}
use mathlib.Core.List.{List, [], ◌∷◌}
use Prim.Native.Nat.{ℕ, zero, suc, ◌+◌, ◌*◌, ◌/◌, ◌%◌, ◌^◌, ◌≤◌, ◌<◌}
use native.Mathlib.Omega.{arith}
use lib.Dec.{eqb, ltb}
use lib.ListN.{length, get_or, drop, set, replicate, length-set, length-replicate, get_or-eq_default}
use lib.Seq.{get_or-set_same, get_or-set_other}
use borrow.Author.Tests.{eqb-true, eqb-false, eq-eqb, ltb-true, ltb-false}
use Rattle.lr1_base.specs.repr.Sizes.{index_limit}
use Rattle.lr1_base.specs.repr.Meaning.{Symbol, Item, Table, production_at, no_production, ProductionFits, TableFits}
use Rattle.lr1_base.proofs.repr.Lists.{cases, clash, length-map-below, get_d_map-below}
use Rattle.lr1_base.proofs.repr.Tests.{All_at, every?_elim, every?_fails}
use Rattle.lr1_base.proofs.repr.SameSymbol.{same_equal, same_refl}
use Rattle.lr1_base.specs.lookahead.Tokens.{has, single}
use Rattle.lr1_base.proofs.lookahead.Laws.{has-none, has-single, single_lt}
use Rattle.lr1_states.specs.canonical.Canonical.{Set, rest, Closed, given, added, Moved, Goto, Start, Inhabited}
use Rattle.lr1_states.specs.canonical.States.{places, tokens, begins, moved_to, moved, goto, start_state, nothing?}
use Rattle.lr1_states.proofs.canonical.Rounds.{Sized}
use Rattle.lr1_states.proofs.canonical.Closure.{Describes, item, tokens_at, tokens_index, tokens-item, has-inside, some-token, closure_exact, closure_sized}
use Rattle.lr1_base.proofs.laws.Lists.{zero_at}

-- the cursor

begins-out : (X : Symbol) (ys : List Symbol) → begins X ys ≡ true → (β : List Symbol) × (ys ≡ X ∷ β)
unfolding begins
begins-out X [] h = clash false h refl
begins-out X (Y ∷ ys) h = (ys, ap (λ (Z : Symbol). Z ∷ ys) (sym (same_equal X Y h)))

begins_in : (X : Symbol) (ys β : List Symbol) → ys ≡ X ∷ β → begins X ys ≡ true
unfolding begins
begins_in X ys β e = rw e (same_refl X)

pub drop-long {ℓ} : {A : Type ℓ} (i : ℕ) (xs : List A) (y : A) (ys : List A) → drop i xs ≡ y ∷ ys → i < length xs
drop-long zero [] y ys e = absurd (omega (arith, ap length e))
drop-long (suc i) [] y ys e = absurd (omega (arith, ap length e))
drop-long zero (x ∷ xs) y ys e = omega arith
drop-long (suc i) (x ∷ xs) y ys e = omega (arith, drop-long i xs y ys e)

module _ (T : Table) (X : Symbol) (S : List ℕ) where
  moved_to-yes : (p i : ℕ) → begins X (drop i (production_at T p).symbols) ≡ true → moved_to T X S p (suc i) ≡ get_or S (index_limit * p + i) 0
  unfolding moved_to
  moved_to-yes p i h = rw (h, moved_to)

  moved_to_no : (p i : ℕ) → begins X (drop i (production_at T p).symbols) ≡ false → moved_to T X S p (suc i) ≡ 0
  unfolding moved_to
  moved_to_no p i h = rw (h, moved_to)

  pub moved_to-zero : (p : ℕ) → moved_to T X S p zero ≡ 0
  unfolding moved_to
  moved_to-zero p = refl

  -- where a moved token comes from
  moved_to-out : (p j a : ℕ) → has (moved_to T X S p j) a ≡ true
      → (i : ℕ) × (β : List Symbol) × (j ≡ suc i) × (drop i (production_at T p).symbols ≡ X ∷ β) × (has (get_or S (index_limit * p + i) 0) a ≡ true)
  moved_to-out p zero a h = clash (has (moved_to T X S p zero) a) h (ap (λ (s : ℕ). has s a) (moved_to-zero p) ∙ has-none a)
  moved_to-out p (suc i) a h =
      cases (begins X (drop i (production_at T p).symbols))
      (λ t. let w = begins-out X (drop i (production_at T p).symbols) t in (i, w.0, refl, w.1, rw (moved_to-yes p i t) at h))
      (λ t. clash (has (moved_to T X S p (suc i)) a) h (ap (λ (s : ℕ). has s a) (moved_to_no p i t) ∙ has-none a))

  moved_to_lt : ((x : ℕ) → get_or S x 0 < 2 ^ 64) → (p i : ℕ) → moved_to T X S p i < 2 ^ 64
  moved_to_lt f p zero = rw (moved_to-zero p) (omega arith)
  moved_to_lt f p (suc i) =
      cases (begins X (drop i (production_at T p).symbols))
      (λ t. rw (moved_to-yes p i t) (f (index_limit * p + i)))
      (λ t. rw (moved_to_no p i t) (omega arith))

  pub length_moved : length (moved T X S) ≡ places T
  unfolding moved
  length_moved = length-map-below (λ y. moved_to T X S (y / index_limit) (y % index_limit)) (places T)

  pub moved_at : (x : ℕ) → x < places T → get_or (moved T X S) x 0 ≡ moved_to T X S (x / index_limit) (x % index_limit)
  unfolding moved
  moved_at x h = get_d_map-below (λ y. moved_to T X S (y / index_limit) (y % index_limit)) (places T) x 0 h

  moved-code : (p i : ℕ) → i < index_limit → index_limit * p + i < places T → get_or (moved T X S) (index_limit * p + i) 0 ≡ moved_to T X S p i
  moved-code p i h l =
      let q : (index_limit * p + i) / index_limit ≡ p = omega arith in
      let r : (index_limit * p + i) % index_limit ≡ i = omega arith in
      moved_at (index_limit * p + i) l ∙ rw (q, r)

  pub moved_sized : Sized (places T) S → Sized (places T) (moved T X S)
  moved_sized z = record {
    long = length_moved;
    fits = λ x. cases (ltb x (places T))
        (λ t. rw (moved_at x (ltb-true x (places T) t)) (moved_to_lt z.fits (x / index_limit) (x % index_limit)))
        (λ t.
        let o : length (moved T X S) ≤ x = rw length_moved (ltb-false x (places T) t) in
        rw (get_or-eq_default (moved T X S) 0 o) (omega arith));
  }

module _ (T : Table) (F : TableFits T) where
  pub symbols_short : (p : ℕ) → length (production_at T p).symbols ≤ 16
  symbols_short p =
      cases (ltb p (length T.productions))
      (λ t. (All_at (ProductionFits T) T.productions p no_production F.productions (ltb-true p (length T.productions) t)).short)
      (λ t. rw (get_or-eq_default T.productions no_production (ltb-false p (length T.productions) t)) (omega arith))

  moved_in : (K : Set) (X : Symbol) (S : List ℕ) → Sized (places T) S → Describes S K → (j : Item) (a : ℕ) → Moved T X K j a → has (tokens (moved T X S) j) a ≡ true
  moved_in K X S z d j a w =
      let i : Item = w.0 in
      let h = (d i a).0 w.5 in
      let u = tokens_index S i a h in
      let g : has (get_or S (index_limit * i.production + i.index) 0) a ≡ true = rw (tokens_at S i u) at h in
      let l : index_limit * i.production + i.index < places T = rw z.long at (has-inside S (index_limit * i.production + i.index) a g) in
      let s = symbols_short i.production in
      let m : i.index < length (production_at T i.production).symbols = drop-long i.index (production_at T i.production).symbols X w.1 w.4 in
      let b : begins X (rest T i) ≡ true = begins_in X (rest T i) w.1 w.4 in
      let e : tokens (moved T X S) (record { production = i.production; index = suc i.index }) ≡ get_or S (index_limit * i.production + i.index) 0 =
      tokens_at (moved T X S) (record { production = i.production; index = suc i.index }) (omega arith)
      ∙ moved-code T X S i.production (suc i.index) (omega arith) (omega arith)
      ∙ moved_to-yes T X S i.production i.index b in
      let q : j ≡ record { production = i.production; index = suc i.index } = same_item_lem j i.production (suc i.index) w.2 w.3 in
      rw (q, e) g
    where
      same_item_lem : (j : Item) (p k : ℕ) → j.production ≡ p → j.index ≡ k → j ≡ record { production = p; index = k }
      same_item_lem j p k f g = rw (← f, ← g)

  moved_out : (K : Set) (X : Symbol) (S : List ℕ) → Sized (places T) S → Describes S K → (j : Item) (a : ℕ) → has (tokens (moved T X S) j) a ≡ true → Moved T X K j a
  moved_out K X S z d j a h =
      let u = tokens_index (moved T X S) j a h in
      let g : has (get_or (moved T X S) (index_limit * j.production + j.index) 0) a ≡ true = rw (tokens_at (moved T X S) j u) at h in
      let l : index_limit * j.production + j.index < places T = rw (length_moved T X S) at (has-inside (moved T X S) (index_limit * j.production + j.index) a g) in
      let w = moved_to-out T X S j.production j.index a (rw (moved-code T X S j.production j.index u l) at g) in
      let i : Item = record { production = j.production; index = w.0 } in
      let v : w.0 < index_limit = omega (arith, w.2, u) in
      (i, w.1, refl, w.2, w.3, (d i a).1 (rw (tokens_at S i v) w.4))

  pub moved_exact : (K : Set) (X : Symbol) (S : List ℕ) → Sized (places T) S → Describes S K → Describes (moved T X S) (Moved T X K)
  moved_exact K X S z d j a = (moved_in K X S z d j a, moved_out K X S z d j a)

  pub goto_sized : (X : Symbol) (S : List ℕ) → Sized (places T) S → Sized (places T) (goto T X S)
  unfolding goto
  goto_sized X S z = closure_sized T F (moved T X S) (moved_sized T X S z)

  pub goto_exact : (K : Set) (X : Symbol) (S : List ℕ) → Sized (places T) S → Describes S K → Describes (goto T X S) (Goto T X K)
  unfolding goto
  goto_exact K X S z d = closure_exact T F (Moved T X K) (moved T X S) (moved_sized T X S z) (moved_exact K X S z d)

  -- the first state

  abbrev pub kernel : ℕ → List ℕ
  kernel start = set (replicate (places T) 0) (index_limit * start) (single T.terminals)

  kernel_at : (start : ℕ) → start < length T.productions → get_or (kernel start) (index_limit * start) 0 ≡ single T.terminals
  kernel_at start h = get_or-set_same (replicate (places T) 0) (index_limit * start) (single T.terminals) 0 (rw (length-replicate {A = ℕ} (places T) 0) (omega arith))

  pub kernel_other : (start x : ℕ) → (x ≡ 17 * start → ⊥) → get_or (kernel start) x 0 ≡ 0
  kernel_other start x n = get_or-set_other (replicate (places T) 0) (index_limit * start) x (single T.terminals) 0 n ∙ zero_at (places T) x

  kernel_sized : (start : ℕ) → start < length T.productions → Sized (places T) (kernel start)
  kernel_sized start h = record {
    long = length-set (replicate (places T) 0) (index_limit * start) (single T.terminals) ∙ length-replicate {A = ℕ} (places T) 0;
    fits = λ x. cases (eqb x (index_limit * start))
        (λ t. rw (eqb-true x (index_limit * start) t, kernel_at start h) (single_lt T.terminals 64 (omega (arith, F.few_terminals))))
        (λ t. rw (kernel_other start x (eqb-false x (index_limit * start) t)) (omega arith));
  }

  kernel_exact : (start : ℕ) → start < length T.productions → Describes (kernel start) (Start T start)
  kernel_exact start h i a = (to, back)
    where
      to : Start T start i a → has (tokens (kernel start) i) a ≡ true
      to w =
          let q : 17 * i.production + i.index ≡ 17 * start = omega (arith, w.0, w.1) in
          let u : i.index < index_limit = omega (arith, w.1) in
          rw (tokens_at (kernel start) i u, q, kernel_at start h, w.2) (has-single T.terminals T.terminals ∙ eq-eqb T.terminals T.terminals refl)

      back : has (tokens (kernel start) i) a ≡ true → Start T start i a
      back g =
          let u = tokens_index (kernel start) i a g in
          let x : ℕ = index_limit * i.production + i.index in
          let k : has (get_or (kernel start) x 0) a ≡ true = rw (tokens_at (kernel start) i u) at g in
          cases (eqb x (index_limit * start))
          (λ t.
          let q : 17 * i.production + i.index ≡ 17 * start = eqb-true x (17 * start) t in
          let k' : has (single T.terminals) a ≡ true = sym (ap (λ (s : ℕ). has s a) (ap (λ (y : ℕ). get_or (kernel start) y 0) q ∙ kernel_at start h)) ∙ k in
          (omega arith, omega arith, eqb-true a T.terminals (sym (has-single T.terminals a) ∙ k')))
          (λ t. clash (has (get_or (kernel start) x 0) a) k (ap (λ (s : ℕ). has s a) (kernel_other start x (eqb-false x (index_limit * start) t)) ∙ has-none a))

  pub start_sized : (start : ℕ) → start < length T.productions → Sized (places T) (start_state T start)
  unfolding start_state
  start_sized start h = closure_sized T F (kernel start) (kernel_sized start h)

  pub start_exact : (start : ℕ) → start < length T.productions → Describes (start_state T start) (Closed T (Start T start))
  unfolding start_state
  start_exact start h = closure_exact T F (Start T start) (kernel start) (kernel_sized start h) (kernel_exact start h)

-- nothing

pub nothing-empty : (S : List ℕ) (K : Set) → Describes S K → nothing? S ≡ true → (i : Item) (a : ℕ) → K i a → ⊥
unfolding nothing?
nothing-empty S K d t i a k =
    let h = (d i a).0 k in
    let u = tokens_index S i a h in
    let x : ℕ = index_limit * i.production + i.index in
    let g : has (get_or S x 0) a ≡ true = rw (tokens_at S i u) at h in
    let q : 0 ≡ get_or S x 0 = eqb-true 0 (get_or S x 0) (every?_elim (eqb 0) S x 0 t (has-inside S x a g)) in
    clash (has (get_or S x 0) a) g (ap (λ (s : ℕ). has s a) (sym q) ∙ has-none a)

pub nothing-some : (S : List ℕ) (K : Set) → ((x : ℕ) → get_or S x 0 < 2 ^ 64) → Describes S K → nothing? S ≡ false → Inhabited K
unfolding nothing?
nothing-some S K f d t =
    let w = every?_fails (eqb 0) S 0 t in
    let v = some-token (get_or S w.0 0) (f w.0) (λ q. eqb-false 0 (get_or S w.0 0) w.2 (sym q)) in
    (item w.0, v.0, (d (item w.0) v.0).1 (rw (tokens-item S w.0) v.1))

pub closed-empty : (T : Table) (K : Set) → ((i : Item) (a : ℕ) → K i a → ⊥) → (i : Item) (a : ℕ) → Closed T K i a → ⊥
closed-empty T K n i a (given k) = n i a k
closed-empty T K n j b (added {i = i} {a = a} m β c e y l o f) = closed-empty T K n i a c
