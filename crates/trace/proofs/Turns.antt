-- A pair entered, and the turn over a state's items (specs/Held).
use Rattle.std.proofs.Common.{◌≡◌, ℕ, zero, suc, ◌+◌, ◌*◌, ◌/◌, ◌<◌, ◌≤◌, true, false, eqb, ltb, List, [], ◌∷◌, length, get_or, sym, refl, ap, ◌∙◌, arith, ltb-false, ltb-true, le-ltb, lt-ltb, eqb-true}
use borrow.Author.Tests.{eqb-false}
use Rattle.lr1_base.specs.repr.Lists.{mem}
use Rattle.lr1_base.specs.repr.Meaning.{Item, Production, no_production, Table, state_at, production_at}
use Rattle.lr1_base.specs.repr.Listed.{listed}
use Rattle.lr1_base.specs.repr.Packed.{productions_in, production_in, symbol_words}
use Rattle.lr1_base.proofs.repr.Lists.{cases, mem-yes, mem_no, get_d_map-below, length-map-below}
use Rattle.lr1_base.specs.item.Items.{shifts_nonterminal}
use Rattle.table.specs.Checked.{Accepted}
use Rattle.table.specs.Words.{loose_records}
use Rattle.table.specs.Decoded.{meaning, items_from}
use Rattle.table.proofs.Chains.{chain_end}
use Rattle.table.specs.Refusals.{check_of}
use Rattle.table.proofs.Decoding.{fits}
use Rattle.trace_graph.specs.Graph.{at_nonterminal, at_item, TraceEdge, add}
use Rattle.trace.specs.Traced.{Trace, pair, enter, add_to, owner_of, symbols_of, can_shift, in_turn}
use Rattle.trace.specs.Shift.{epsilon}
use Rattle.trace.specs.Edges.{epsilon_edge}
use Rattle.trace.proofs.Grows.{grows_length, turn_nil, turn_cons, epsilon_grows, epsilon_cannot, epsilon_past, epsilon_beginning, epsilon-entered, epsilon_new}
use Rattle.trace.proofs.Steps.{edge_past, edge_beginning, item_step, step_exceeds}
use Rattle.lr1_base.specs.bits.Bits.{bit_at, bit_put}
use Rattle.lr1_base.proofs.bits.Laws.{put_here, put_other}
use Rattle.trace.specs.edge_codes.Coded.{Coded}
use Rattle.trace.specs.Held.{Held, Steps, Exceeds, open_bits, unset, Working}

-- the flags that are not set

pub open_set : (k : ℕ) (vs : List ℕ) → bit_at vs k ≡ true → open_bits (suc k) vs ≡ open_bits k vs
unfolding open_bits
open_set k vs e = rw (e, open_bits)

pub open_unset : (k : ℕ) (vs : List ℕ) → bit_at vs k ≡ false → open_bits (suc k) vs ≡ suc (open_bits k vs)
unfolding open_bits
open_unset k vs e = rw (e, open_bits)

pub open_zero : (us : List ℕ) → open_bits zero us ≡ 0
unfolding open_bits
open_zero us = refl

module _ (vs : List ℕ) (p : ℕ) (i : p / 64 < length vs) where
  open_past : (n : ℕ) → n ≤ p → open_bits n (bit_put vs p) ≡ open_bits n vs
  open_past zero h = open_zero (bit_put vs p) ∙ sym (open_zero vs)
  open_past (suc k) h =
      let rest = open_past k (omega arith) in
      let o = put_other vs p k i (λ q. omega arith) in
      cases (bit_at vs k)
      (λ e. open_set k (bit_put vs p) (o ∙ e) ∙ rest ∙ sym (open_set k vs e))
      (λ e. open_unset k (bit_put vs p) (o ∙ e) ∙ ap suc rest ∙ sym (open_unset k vs e))

  pub open_put : bit_at vs p ≡ false → (n : ℕ) → p < n → suc (open_bits n (bit_put vs p)) ≡ open_bits n vs
  open_put b zero h = absurd (omega arith)
  open_put b (suc k) h =
      let rest = open_put b k in
      cases (eqb p k)
      (λ q.
      let z = eqb-true p k q in
      let here : bit_at (bit_put vs p) k ≡ true = rw (← z) (put_here vs p i) in
      ap suc (open_set k (bit_put vs p) here ∙ open_past k (omega arith)) ∙ sym (open_unset k vs (rw (← z) b)))
      (λ q.
      let ne = eqb-false p k q in
      let o = put_other vs p k i (λ z. ne (sym z)) in
      let r = rest (omega (arith, ne)) in
      cases (bit_at vs k)
      (λ e. ap suc (open_set k (bit_put vs p) (o ∙ e)) ∙ r ∙ sym (open_set k vs e))
      (λ e. ap suc (open_unset k (bit_put vs p) (o ∙ e)) ∙ ap suc r ∙ sym (open_unset k vs e)))

-- a pair that is entered, and one that is new

module _ (T : Table) (s m : ℕ) (ws fs vs : List ℕ) (small : pair s m < 4096) where
  pub pair_known : bit_at vs (pair s m) ≡ true → (f : ℕ) → unset vs ≤ f → Steps T (epsilon T f s m) ws fs vs ws fs vs
  pair_known b f hf st h = rw (epsilon-entered T f s m st (sym (h.seen (pair s m) small) ∙ b)) h

  module _ (long : length vs ≡ 64) (b : bit_at vs (pair s m) ≡ false) where
    inside : pair s m / 64 < length vs
    inside = omega arith

    pub pair_fewer : suc (unset (bit_put vs (pair s m))) ≡ unset vs
    pair_fewer = open_put vs (pair s m) inside b 4096 small

    pub enter-held : (st : Trace) → Held T ws fs vs st → Held T ws fs (bit_put vs (pair s m)) (enter s m st)
    unfolding enter
    enter-held st h = record {
      edges = h.edges;
      seen = λ k l. cases (eqb k (pair s m))
          (λ q. let z = eqb-true k (pair s m) q in mem_side k z (put_here vs (pair s m) inside) q)
          (λ q. put_other vs (pair s m) k inside (eqb-false k (pair s m) q) ∙ h.seen k l ∙ sym (mem_no k (pair s m) st.seen q));
    }
      where
        mem_side : (k : ℕ) → k ≡ pair s m → bit_at (bit_put vs (pair s m)) (pair s m) ≡ true → eqb k (pair s m) ≡ true → bit_at (bit_put vs (pair s m)) k ≡ mem k (pair s m ∷ st.seen)
        mem_side k z e q = ap (bit_at (bit_put vs (pair s m))) z ∙ e ∙ sym (mem-yes k (pair s m) st.seen q)

    pub pair_made : (P : Trace → Type 0) → ((f : ℕ) → unset (bit_put vs (pair s m)) ≤ f → (st : Trace) → Held T ws fs (bit_put vs (pair s m)) st → P (in_turn (item_step T s m f) (state_at T s).items st))
        → (f : ℕ) → unset vs ≤ f → (st : Trace) → Held T ws fs vs st → P (epsilon T f s m st)
    pair_made P h zero hf st held = let w = pair_fewer in absurd (omega arith)
    pair_made P h (suc f) hf st held =
        let w = pair_fewer in
        rw (epsilon_new T f s m st (sym (held.seen (pair s m) small) ∙ b)) (h f (omega arith) (enter s m st) (enter-held st held))

-- the turn over the items

pub record Turning (t : List ℕ) (s m : ℕ) (ws₀ fs₀ v₀ ws fs v : List ℕ) (is : List Item) : Type 0 where
  pub fewer : unset v ≤ unset v₀
  pub same : (f : ℕ) → unset v₀ ≤ f → (st : Trace) → Held (meaning t) ws₀ fs₀ v₀ st
      → (u : Trace) × Held (meaning t) ws fs v u × (in_turn (item_step (meaning t) s m f) is u ≡ in_turn (item_step (meaning t) s m f) (state_at (meaning t) s).items st)

pub items_none : (t : List ℕ) → items_from t 0 ≡ []
unfolding items_from
items_none t = rw (chain_end t (loose_records t) 0)

module _ (t : List ℕ) (s m : ℕ) (ws₀ fs₀ v₀ : List ℕ) where
  pub turning_start : (is : List Item) → ((f : ℕ) (st : Trace) → in_turn (item_step (meaning t) s m f) (state_at (meaning t) s).items st ≡ in_turn (item_step (meaning t) s m f) is st)
      → Turning t s m ws₀ fs₀ v₀ ws₀ fs₀ v₀ is
  turning_start is e = record {
    fewer = omega arith;
    same = λ f hf st h. (st, h, sym (e f st));
  }

  module _ (ws fs v : List ℕ) (is : List Item) (U : Turning t s m ws₀ fs₀ v₀ ws fs v is) where
    pub turning_done : is ≡ [] → (f : ℕ) → unset v₀ ≤ f → (st : Trace) → Held (meaning t) ws₀ fs₀ v₀ st → Held (meaning t) ws fs v (in_turn (item_step (meaning t) s m f) (state_at (meaning t) s).items st)
    turning_done z f hf st h =
        let r = U.same f hf st h in
        let e : r.0 ≡ in_turn (item_step (meaning t) s m f) (state_at (meaning t) s).items st =
        sym (turn_nil (item_step (meaning t) s m f) r.0) ∙ ap (λ (l : List Item). in_turn (item_step (meaning t) s m f) l r.0) (sym z) ∙ r.2 in
        rw e at r.1

    -- other items that make the same turn
    pub turning_move : (js : List Item) → ((f : ℕ) (st : Trace) → in_turn (item_step (meaning t) s m f) is st ≡ in_turn (item_step (meaning t) s m f) js st) → Turning t s m ws₀ fs₀ v₀ ws fs v js
    turning_move js e = record {
      fewer = U.fewer;
      same = λ f hf st h. let r = U.same f hf st h in (r.0, r.1, sym (e f r.0) ∙ r.2);
    }

    module _ (rest : List Item) (p x : ℕ) (R : is ≡ record { production = p; index = x } ∷ rest) where
      opened : (f : ℕ) (u : Trace) (W : Trace) → in_turn (item_step (meaning t) s m f) is u ≡ W
          → in_turn (item_step (meaning t) s m f) rest (item_step (meaning t) s m f (record { production = p; index = x }) u) ≡ W
      opened f u W e =
          sym (turn_cons (item_step (meaning t) s m f) (record { production = p; index = x }) rest u)
          ∙ ap (λ (l : List Item). in_turn (item_step (meaning t) s m f) l u) (sym R) ∙ e

      pub turning_skip : can_shift (meaning t) m (record { production = p; index = x }) ≡ false → Turning t s m ws₀ fs₀ v₀ ws fs v rest
      turning_skip c = record {
        fewer = U.fewer;
        same = λ f hf st h.
            let r = U.same f hf st h in
            let k = epsilon_cannot (meaning t) m (λ k u. epsilon (meaning t) f s k u) (record { production = p; index = x }) r.0 c in
            (item_step (meaning t) s m f (record { production = p; index = x }) r.0, rw k r.1, opened f r.0 _ r.2);
      }

      module _ (c : can_shift (meaning t) m (record { production = p; index = x }) ≡ true) where
        -- the edge added
        added_past : 0 < x → (ws' fs' : List ℕ) → ((es : List TraceEdge) → Coded (meaning t) ws fs es → Coded (meaning t) ws' fs' (add (meaning t).productions (epsilon_edge (meaning t).productions (record { production = p; index = x }) m) es))
            → (u : Trace) → Held (meaning t) ws fs v u → Held (meaning t) ws' fs' v (add_to (meaning t) (at_item (record { production = p; index = x })) (at_nonterminal m) (record { production = p; index = x }) u)
        unfolding add_to
        added_past pos ws' fs' a u h = record { edges = rw (edge_past (meaning t) (record { production = p; index = x }) m pos) at (a u.edges h.edges); seen = h.seen }

        added_beginning : x ≤ 0 → (ws' fs' : List ℕ) → ((es : List TraceEdge) → Coded (meaning t) ws fs es → Coded (meaning t) ws' fs' (add (meaning t).productions (epsilon_edge (meaning t).productions (record { production = p; index = x }) m) es))
            → (u : Trace) → Held (meaning t) ws fs v u → Held (meaning t) ws' fs' v (add_to (meaning t) (at_nonterminal (owner_of (meaning t) (record { production = p; index = x }))) (at_nonterminal m) (record { production = p; index = x }) u)
        unfolding add_to
        added_beginning low ws' fs' a u h = record { edges = rw (edge_beginning (meaning t) (record { production = p; index = x }) m low) at (a u.edges h.edges); seen = h.seen }

        pub turning_past : 0 < x → (ws' fs' : List ℕ) → ((es : List TraceEdge) → Coded (meaning t) ws fs es → Coded (meaning t) ws' fs' (add (meaning t).productions (epsilon_edge (meaning t).productions (record { production = p; index = x }) m) es))
            → Turning t s m ws₀ fs₀ v₀ ws' fs' v rest
        turning_past pos ws' fs' a = record {
          fewer = U.fewer;
          same = λ f hf st h.
              let r = U.same f hf st h in
              let k = epsilon_past (meaning t) m (λ k u. epsilon (meaning t) f s k u) (record { production = p; index = x }) r.0 c (lt-ltb 0 x pos) in
              (item_step (meaning t) s m f (record { production = p; index = x }) r.0, rw k (added_past pos ws' fs' a r.0 r.1), opened f r.0 _ r.2);
        }

        pub turning_followed : x ≤ 0 → (o : ℕ) → o ≡ owner_of (meaning t) (record { production = p; index = x }) → (ws' fs' : List ℕ)
            → ((es : List TraceEdge) → Coded (meaning t) ws fs es → Coded (meaning t) ws' fs' (add (meaning t).productions (epsilon_edge (meaning t).productions (record { production = p; index = x }) m) es))
            → (ws'' fs'' v'' : List ℕ) → ((f : ℕ) → unset v ≤ f → Steps (meaning t) (epsilon (meaning t) f s o) ws' fs' v ws'' fs'' v'') → unset v'' ≤ unset v
            → Turning t s m ws₀ fs₀ v₀ ws'' fs'' v'' rest
        turning_followed low o eo ws' fs' a ws'' fs'' v'' call z = record {
          fewer = let w = U.fewer in omega arith;
          same = λ f hf st h.
              let r = U.same f hf st h in
              let w = U.fewer in
              let to = add_to (meaning t) (at_nonterminal (owner_of (meaning t) (record { production = p; index = x }))) (at_nonterminal m) (record { production = p; index = x }) r.0 in
              let went : Held (meaning t) ws'' fs'' v'' (epsilon (meaning t) f s (owner_of (meaning t) (record { production = p; index = x })) to) = rw eo at (call f (omega arith) to (added_beginning low ws' fs' a r.0 r.1)) in
              let k = epsilon_beginning (meaning t) m (λ k u. epsilon (meaning t) f s k u) (record { production = p; index = x }) r.0 c (le-ltb 0 x low) in
              (item_step (meaning t) s m f (record { production = p; index = x }) r.0, rw k went, opened f r.0 _ r.2);
        }

        -- too many edges: by the item's own edge, or further on

        stopped : (f : ℕ) (hf : unset v₀ ≤ f) (st : Trace) (h : Held (meaning t) ws₀ fs₀ v₀ st)
            → 1024 < length (item_step (meaning t) s m f (record { production = p; index = x }) (U.same f hf st h).0).edges
            → 1024 < length (in_turn (item_step (meaning t) s m f) (state_at (meaning t) s).items st).edges
        stopped f hf st h many =
            let r = U.same f hf st h in
            rw (← (opened f r.0 _ r.2)) (step_exceeds (meaning t) s m f (record { production = p; index = x }) rest r.0 many)

        over_past : 0 < x → ((es : List TraceEdge) → Coded (meaning t) ws fs es → 1024 < length (add (meaning t).productions (epsilon_edge (meaning t).productions (record { production = p; index = x }) m) es))
            → (u : Trace) → Held (meaning t) ws fs v u → 1024 < length (add_to (meaning t) (at_item (record { production = p; index = x })) (at_nonterminal m) (record { production = p; index = x }) u).edges
        unfolding add_to
        over_past pos a u h = rw (edge_past (meaning t) (record { production = p; index = x }) m pos) at (a u.edges h.edges)

        over_beginning : x ≤ 0 → ((es : List TraceEdge) → Coded (meaning t) ws fs es → 1024 < length (add (meaning t).productions (epsilon_edge (meaning t).productions (record { production = p; index = x }) m) es))
            → (u : Trace) → Held (meaning t) ws fs v u → 1024 < length (add_to (meaning t) (at_nonterminal (owner_of (meaning t) (record { production = p; index = x }))) (at_nonterminal m) (record { production = p; index = x }) u).edges
        unfolding add_to
        over_beginning low a u h = rw (edge_beginning (meaning t) (record { production = p; index = x }) m low) at (a u.edges h.edges)

        pub turning_full : ((es : List TraceEdge) → Coded (meaning t) ws fs es → 1024 < length (add (meaning t).productions (epsilon_edge (meaning t).productions (record { production = p; index = x }) m) es))
            → (f : ℕ) → unset v₀ ≤ f → (st : Trace) → Held (meaning t) ws₀ fs₀ v₀ st → 1024 < length (in_turn (item_step (meaning t) s m f) (state_at (meaning t) s).items st).edges
        turning_full a f hf st h =
            let r = U.same f hf st h in
            stopped f hf st h (cases (ltb 0 x)
            (λ d. rw (epsilon_past (meaning t) m (λ k u. epsilon (meaning t) f s k u) (record { production = p; index = x }) r.0 c d) (over_past (ltb-true 0 x d) a r.0 r.1))
            (λ d.
            let to = add_to (meaning t) (at_nonterminal (owner_of (meaning t) (record { production = p; index = x }))) (at_nonterminal m) (record { production = p; index = x }) r.0 in
            let many = over_beginning (ltb-false 0 x d) a r.0 r.1 in
            let q = grows_length (epsilon_grows (meaning t) f s (owner_of (meaning t) (record { production = p; index = x })) to) in
            rw (epsilon_beginning (meaning t) m (λ k u. epsilon (meaning t) f s k u) (record { production = p; index = x }) r.0 c d) (omega arith)))

        pub turning_follow_full : x ≤ 0 → (o : ℕ) → o ≡ owner_of (meaning t) (record { production = p; index = x }) → (ws' fs' : List ℕ)
            → ((es : List TraceEdge) → Coded (meaning t) ws fs es → Coded (meaning t) ws' fs' (add (meaning t).productions (epsilon_edge (meaning t).productions (record { production = p; index = x }) m) es))
            → ((f : ℕ) → unset v ≤ f → Exceeds (meaning t) (epsilon (meaning t) f s o) ws' fs' v)
            → (f : ℕ) → unset v₀ ≤ f → (st : Trace) → Held (meaning t) ws₀ fs₀ v₀ st → 1024 < length (in_turn (item_step (meaning t) s m f) (state_at (meaning t) s).items st).edges
        turning_follow_full low o eo ws' fs' a call f hf st h =
            let r = U.same f hf st h in
            let w = U.fewer in
            let to = add_to (meaning t) (at_nonterminal (owner_of (meaning t) (record { production = p; index = x }))) (at_nonterminal m) (record { production = p; index = x }) r.0 in
            let went : 1024 < length (epsilon (meaning t) f s (owner_of (meaning t) (record { production = p; index = x })) to).edges = rw eo at (call f (omega arith) to (added_beginning low ws' fs' a r.0 r.1)) in
            stopped f hf st h (rw (epsilon_beginning (meaning t) m (λ k u. epsilon (meaning t) f s k u) (record { production = p; index = x }) r.0 c (le-ltb 0 x low)) went)

-- what the packed words say

module _ (t g : List ℕ) (productions : ℕ) (ls : List ℕ) (W : Working t g productions ls) where
  pub work_many : productions ≡ length (meaning t).productions
  unfolding productions_in
  work_many = sym (length-map-below (production_in g) productions) ∙ ap length W.same

  work_at : (p : ℕ) → p < productions → production_at (meaning t) p ≡ production_in g p
  unfolding productions_in
  work_at p h = ap (λ (ps : List Production). get_or ps p no_production) (sym W.same) ∙ get_d_map-below (production_in g) productions p no_production h

  pub work_owner : (p x : ℕ) → p < productions → get_or g (p * 36) 0 ≡ owner_of (meaning t) (record { production = p; index = x })
  unfolding owner_of production_in
  work_owner p x h = sym (ap (λ (q : Production). q.nonterminal) (work_at p h))

  pub work_shift : (p x n : ℕ) → p < productions → shifts_nonterminal (listed (symbol_words g p)) x n ≡ can_shift (meaning t) n (record { production = p; index = x })
  unfolding can_shift symbols_of production_in
  work_shift p x n h = rw (ap (λ (q : Production). q.symbols) (work_at p h))

-- as the code has it

pub pair_small : (t : List ℕ) → check_of t ≡ Accepted → (s m : ℕ) → s < length (meaning t).states → m < length (meaning t).nonterminals → s * 32 + m < 4096
pair_small t e s m a b = let F = fits t e in omega (arith, F.few_states, F.few_nonterminals)

module _ (T : Table) (s m : ℕ) (ws fs vs : List ℕ) (small : s * 32 + m < 4096) where
  pub known : bit_at vs (s * 32 + m) ≡ true → (f : ℕ) → unset vs ≤ f → Steps T (epsilon T f s m) ws fs vs ws fs vs
  unfolding pair
  known b = pair_known T s m ws fs vs small b

  module _ (long : length vs ≡ 64) (b : bit_at vs (s * 32 + m) ≡ false) (v₁ : List ℕ) (ev : v₁ ≡ bit_put vs (s * 32 + m)) where
    pub made_fewer : suc (unset v₁) ≡ unset vs
    unfolding pair
    made_fewer = rw ev (pair_fewer T s m ws fs vs small long b)

    pub made : (P : Trace → Type 0) → ((f : ℕ) → unset v₁ ≤ f → (st : Trace) → Held T ws fs v₁ st → P (in_turn (item_step T s m f) (state_at T s).items st))
        → (f : ℕ) → unset vs ≤ f → (st : Trace) → Held T ws fs vs st → P (epsilon T f s m st)
    unfolding pair
    made P h = pair_made T s m ws fs vs small long b P (rw ev at h)
