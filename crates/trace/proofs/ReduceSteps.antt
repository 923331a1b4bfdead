-- The two steps of `backtrace_reduce` over words with an edge a word (specs/Stamps): what is left of a turn gives what the whole gives; one law for each way through the code.
use Rattle.std.proofs.Common.{◌≡◌, ℕ, zero, suc, ◌+◌, ◌*◌, ◌<◌, ◌≤◌, Bool, true, false, List, [], ◌∷◌, length, sym, refl, ap, ◌∙◌, subst, arith}
use Rattle.lr1_base.specs.repr.Meaning.{Item, Table, TableFits, ItemFits, state_at}
use Rattle.first.specs.First.{nullable}
use Rattle.state_graph.specs.Walk.{traced_back}
use Rattle.trace_graph.specs.Graph.{at_nonterminal, at_item, TraceEdge, add}
use Rattle.trace.specs.Traced.{Trace, pair, enter, add_to, owner_of, can_shift, prefix_of, suffix_of, in_turn}
use Rattle.trace.specs.Reduce.{item_of_reduce, state_of_reduce}
use Rattle.trace.specs.Edges.{edge_to_nonterminal, source_of}
use Rattle.trace.proofs.Grows.{Adds, add_grows, enter_grows, grows_length, turn_nil, turn_cons, turn_grows, reduce_cannot, reduce_nullable, reduce_ends, reduce_item_is, reduce_entered, reduce_new, reduce_item_grows, reduce_grows}
use Rattle.trace.proofs.Repeated.{met_still}
use Rattle.trace.proofs.Steps.{from_state, on_item, from_state_adds}
use Rattle.lr1_base.specs.bits.Bits.{bit_at, bit_put}
use Rattle.trace.specs.edge_codes.Coded.{Coded}
use Rattle.trace.specs.Held.{unset}
use Rattle.trace.specs.Stamps.{stamp_read_at, Reducing, Reduces, ReduceExceeds}
use Rattle.trace.proofs.Turns.{pair_fewer, enter-held}
use Rattle.trace.proofs.StampLaws.{stamped_stays, stamped_put, traced_on}

abbrev pub Goes : Table → (ℕ → Trace → Trace) → List ℕ → List ℕ → List ℕ → List ℕ → List ℕ → List ℕ → List ℕ → List ℕ → Type 0
Goes T step ws fs v ss ws' fs' v' ss' = (f : ℕ) → unset v ≤ f → Reduces T (step f) ws fs v ss ws' fs' v' ss'

abbrev pub Stops : Table → (ℕ → Trace → Trace) → List ℕ → List ℕ → List ℕ → List ℕ → Type 0
Stops T step ws fs v ss = (f : ℕ) → unset v ≤ f → ReduceExceeds T (step f) ws fs v ss

-- ws₀, fs₀, v₀, ss₀: the words where the turn begins; ws, fs, v, ss: those where the steps of `rest` are left
pub record Left (T : Table) {A : Type 0} (step : ℕ → A → Trace → Trace) (all rest : List A) (ws₀ fs₀ v₀ ss₀ ws fs v ss : List ℕ) : Type 0 where
  pub fewer : unset v ≤ unset v₀
  pub left : (f : ℕ) → unset v₀ ≤ f → (st : Trace) → Reducing T ws₀ fs₀ v₀ ss₀ st → (u : Trace) × Reducing T ws fs v ss u × (in_turn (step f) rest u ≡ in_turn (step f) all st)

module _ (T : Table) {A : Type 0} (step : ℕ → A → Trace → Trace) (all : List A) (ws₀ fs₀ v₀ ss₀ : List ℕ) where
  pub left-start : (rest : List A) → rest ≡ all → Left T step all rest ws₀ fs₀ v₀ ss₀ ws₀ fs₀ v₀ ss₀
  left-start rest e = record { fewer = omega arith; left = λ f h st R. (st, R, ap (λ (l : List A). in_turn (step f) l st) e) }

  module _ (here : List A) (ws fs v ss : List ℕ) (L : Left T step all here ws₀ fs₀ v₀ ss₀ ws fs v ss) where
    pub left-done : here ≡ [] → Goes T (λ (f : ℕ) (st : Trace). in_turn (step f) all st) ws₀ fs₀ v₀ ss₀ ws fs v ss
    left-done e f h st R =
        let q = L.left f h st R in
        subst (Reducing T ws fs v ss) (sym (turn_nil (step f) q.0) ∙ ap (λ (l : List A). in_turn (step f) l q.0) (sym e) ∙ q.2) q.1

    module _ (x : A) (rest : List A) (e : here ≡ x ∷ rest) where
      opened : (f : ℕ) (h : unset v₀ ≤ f) (st : Trace) (R : Reducing T ws₀ fs₀ v₀ ss₀ st) → in_turn (step f) rest (step f x (L.left f h st R).0) ≡ in_turn (step f) all st
      opened f h st R =
          let q = L.left f h st R in
          sym (turn_cons (step f) x rest q.0) ∙ ap (λ (l : List A). in_turn (step f) l q.0) (sym e) ∙ q.2

      pub left-next : (ws' fs' v' ss' : List ℕ) → Goes T (λ (f : ℕ) (st : Trace). step f x st) ws fs v ss ws' fs' v' ss' → unset v' ≤ unset v → Left T step all rest ws₀ fs₀ v₀ ss₀ ws' fs' v' ss'
      left-next ws' fs' v' ss' g z = record {
        fewer = let w = L.fewer in omega arith;
        left = λ f h st R. let w = L.fewer in let q = L.left f h st R in (step f x q.0, g f (omega arith) q.0 q.1, opened f h st R);
      }

      pub left_over : ((f : ℕ) (y : A) → Adds (step f y)) → Stops T (λ (f : ℕ) (st : Trace). step f x st) ws fs v ss → Stops T (λ (f : ℕ) (st : Trace). in_turn (step f) all st) ws₀ fs₀ v₀ ss₀
      left_over adds g f h st R =
          let w = L.fewer in
          let q = L.left f h st R in
          let a = g f (omega arith) q.0 q.1 in
          let b = grows_length (turn_grows (step f) (adds f) rest (step f x q.0)) in
          rw (← (opened f h st R)) (omega arith)

-- the item step

module _ (T : Table) (s : ℕ) (i : Item) (ws fs v ss : List ℕ) where
  abbrev pub item_goes : ℕ → Trace → Trace
  item_goes f st = item_of_reduce T (λ (p m : ℕ) (u : Trace). state_of_reduce T f p m u) s i st

  pub item-full : ((es : List TraceEdge) → Coded T ws fs es → 1024 < length (add T.productions (record { source = at_nonterminal (owner_of T i); target = at_item i; label = i }) es)) → Stops T item_goes ws fs v ss
  unfolding add_to
  item-full a f h st R =
      let q = a st.edges R.held.edges in
      let r = grows_length (turn_grows (from_state T (owner_of T i) f) (from_state_adds T (owner_of T i) f) (traced_back T s (prefix_of T i)) (add_to T (at_nonterminal (owner_of T i)) (at_item i) i st)) in
      rw (reduce_item_is T (λ (p m : ℕ) (u : Trace). state_of_reduce T f p m u) s i st) (omega arith)

  module _ (ws₁ fs₁ : List ℕ) (a : (es : List TraceEdge) → Coded T ws fs es → Coded T ws₁ fs₁ (add T.productions (record { source = at_nonterminal (owner_of T i); target = at_item i; label = i }) es)) (o : ℕ) (owner : o ≡ owner_of T i) (all : List ℕ) (found : all ≡ traced_back T s (prefix_of T i)) where
    added : (st : Trace) → Reducing T ws fs v ss st → Reducing T ws₁ fs₁ v ss (add_to T (at_nonterminal (owner_of T i)) (at_item i) i st)
    unfolding add_to
    added st R = record {
      held = record { edges = a st.edges R.held.edges; seen = R.held.seen };
      stamped = stamped_stays T ss (add_grows T (at_nonterminal (owner_of T i)) (at_item i) i st) R.stamped;
    }

    turn_is : (f : ℕ) (st : Trace) → in_turn (from_state T o f) all (add_to T (at_nonterminal (owner_of T i)) (at_item i) i st) ≡ item_goes f st
    turn_is f st = rw (found, owner) (sym (reduce_item_is T (λ (p m : ℕ) (u : Trace). state_of_reduce T f p m u) s i st))

    pub item-goes : (ws' fs' v' ss' : List ℕ) → Goes T (λ (f : ℕ) (st : Trace). in_turn (from_state T o f) all st) ws₁ fs₁ v ss ws' fs' v' ss' → Goes T item_goes ws fs v ss ws' fs' v' ss'
    item-goes ws' fs' v' ss' g f h st R = subst (Reducing T ws' fs' v' ss') (turn_is f st) (g f h (add_to T (at_nonterminal (owner_of T i)) (at_item i) i st) (added st R))

    pub item-stops : Stops T (λ (f : ℕ) (st : Trace). in_turn (from_state T o f) all st) ws₁ fs₁ v ss → Stops T item_goes ws fs v ss
    item-stops g f h st R = subst (λ (u : Trace). 1024 < length u.edges) (turn_is f st) (g f h (add_to T (at_nonterminal (owner_of T i)) (at_item i) i st) (added st R))

-- an item that was traced on from this state gets its stamp
pub stamp_goes : (T : Table) → TableFits T → (s : ℕ) → s < length T.states → (i : Item) → ItemFits T i → (ws fs v ss ws' fs' v' ss' ss'' : List ℕ) → Goes T (item_goes T s i ws fs v ss) ws fs v ss ws' fs' v' ss'
    → stamp_read_at ss'' (i.production * 17 + i.index) ≡ s + 1 → ((c : ℕ) → (c ≡ i.production * 17 + i.index → ⊥) → stamp_read_at ss'' c ≡ stamp_read_at ss' c) → Goes T (item_goes T s i ws fs v ss) ws fs v ss ws' fs' v' ss''
stamp_goes T fits s inside i I ws fs v ss ws' fs' v' ss' ss'' g here other f h st R =
    let G = g f h st R in
    record { held = G.held; stamped = stamped_put T fits s inside i I ss' ss'' here other _ G.stamped (traced_on T fits s inside i I ws fs v f h st R.held) }

-- one item of the state step

module _ (T : Table) (s m : ℕ) (i : Item) (ws fs v ss : List ℕ) where
  pub skip_goes : can_shift T m i ≡ false → Goes T (λ (f : ℕ) (st : Trace). on_item T s m f i st) ws fs v ss ws fs v ss
  skip_goes c f h st R = rw (reduce_cannot T m (λ j u. item_of_reduce T (λ p k w. state_of_reduce T f p k w) s j u) i st c) R

  module _ (shifts : can_shift T m i ≡ true) (on : Bool) (null : on ≡ nullable T (suffix_of T i)) where
    abbrev via : Trace → Trace
    via st = add_to T (at_nonterminal (owner_of T i)) (at_nonterminal m) i st

    ends_is : on ≡ false → (f : ℕ) (st : Trace) → on_item T s m f i st ≡ add_to T (at_item i) (at_nonterminal m) i st
    ends_is off f st = reduce_ends T m (λ j u. item_of_reduce T (λ p k w. state_of_reduce T f p k w) s j u) i st shifts (sym null ∙ off)

    via_is : on ≡ true → (f : ℕ) (st : Trace) → on_item T s m f i st ≡ item_goes T s i ws fs v ss f (via st)
    via_is y f st = reduce_nullable T m (λ j u. item_of_reduce T (λ p k w. state_of_reduce T f p k w) s j u) i st shifts (sym null ∙ y)

    -- the edge is one too many
    pub edge_stops : ((es : List TraceEdge) → Coded T ws fs es → 1024 < length (add T.productions (edge_to_nonterminal on (owner_of T i) m i) es)) → Stops T (λ (f : ℕ) (st : Trace). on_item T s m f i st) ws fs v ss
    unfolding add_to edge_to_nonterminal source_of
    edge_stops a f h st R = go on refl
      where
        go : (b : Bool) → on ≡ b → 1024 < length (on_item T s m f i st).edges
        go true y =
            let q : 1024 < length (via st).edges = rw y at (a st.edges R.held.edges) in
            let r = grows_length (reduce_item_grows T (λ p k w. state_of_reduce T f p k w) (reduce_grows T f) s i (via st)) in
            rw (via_is y f st) (omega arith)
        go false y = rw (ends_is y f st) (rw y at (a st.edges R.held.edges))

    module _ (ws₁ fs₁ : List ℕ) (a : (es : List TraceEdge) → Coded T ws fs es → Coded T ws₁ fs₁ (add T.productions (edge_to_nonterminal on (owner_of T i) m i) es)) where
      pub off_goes : on ≡ false → Goes T (λ (f : ℕ) (st : Trace). on_item T s m f i st) ws fs v ss ws₁ fs₁ v ss
      unfolding add_to edge_to_nonterminal source_of
      off_goes off f h st R = rw (ends_is off f st) (record {
        held = record { edges = rw off at (a st.edges R.held.edges); seen = R.held.seen };
        stamped = stamped_stays T ss (add_grows T (at_item i) (at_nonterminal m) i st) R.stamped;
      })

      via-held : on ≡ true → (st : Trace) → Reducing T ws fs v ss st → Reducing T ws₁ fs₁ v ss (via st)
      unfolding add_to edge_to_nonterminal source_of
      via-held y st R = record {
        held = record { edges = rw y at (a st.edges R.held.edges); seen = R.held.seen };
        stamped = stamped_stays T ss (add_grows T (at_nonterminal (owner_of T i)) (at_nonterminal m) i st) R.stamped;
      }

      -- an item that has this state's stamp is not traced on again
      pub known_goes : on ≡ true → ItemFits T i → stamp_read_at ss (i.production * 17 + i.index) ≡ s + 1 → Goes T (λ (f : ℕ) (st : Trace). on_item T s m f i st) ws fs v ss ws₁ fs₁ v ss
      known_goes y I e f h st R = let on-it = via-held y st R in subst (Reducing T ws₁ fs₁ v ss) (sym (via_is y f st ∙ met_still T f s i (via st) (on-it.stamped.met i I s e))) on-it

      pub on_goes : on ≡ true → (ws' fs' v' ss' : List ℕ) → Goes T (λ (f : ℕ) (st : Trace). item_of_reduce T (λ (p k : ℕ) (u : Trace). state_of_reduce T f p k u) s i st) ws₁ fs₁ v ss ws' fs' v' ss' → Goes T (λ (f : ℕ) (st : Trace). on_item T s m f i st) ws fs v ss ws' fs' v' ss'
      on_goes y ws' fs' v' ss' g f h st R = rw (via_is y f st) (g f h (via st) (via-held y st R))

      pub on_stops : on ≡ true → Stops T (λ (f : ℕ) (st : Trace). item_of_reduce T (λ (p k : ℕ) (u : Trace). state_of_reduce T f p k u) s i st) ws₁ fs₁ v ss → Stops T (λ (f : ℕ) (st : Trace). on_item T s m f i st) ws fs v ss
      on_stops y g f h st R = rw (via_is y f st) (g f h (via st) (via-held y st R))

-- the state step

module _ (T : Table) (s m : ℕ) (ws fs vs ss : List ℕ) (small : s * 32 + m < 4096) where
  pub state_known : bit_at vs (s * 32 + m) ≡ true → Goes T (λ (f : ℕ) (st : Trace). state_of_reduce T f s m st) ws fs vs ss ws fs vs ss
  unfolding pair
  state_known b f hf st R = rw (reduce_entered T f s m st (sym (R.held.seen (s * 32 + m) small) ∙ b)) R

  module _ (long : length vs ≡ 64) (b : bit_at vs (s * 32 + m) ≡ false) (v₁ : List ℕ) (ev : v₁ ≡ bit_put vs (s * 32 + m)) where
    pub state_fewer : suc (unset v₁) ≡ unset vs
    unfolding pair
    state_fewer = rw ev (pair_fewer T s m ws fs vs small long b)

    entering : (P : Trace → Type 0) → ((f : ℕ) → unset v₁ ≤ f → (st : Trace) → Reducing T ws fs v₁ ss st → P (in_turn (on_item T s m f) (state_at T s).items st))
        → (f : ℕ) → unset vs ≤ f → (st : Trace) → Reducing T ws fs vs ss st → P (state_of_reduce T f s m st)
    unfolding pair
    entering P h zero hf st R = let w = state_fewer in absurd (omega arith)
    entering P h (suc f) hf st R =
        let w = state_fewer in
        rw (reduce_new T f s m st (sym (R.held.seen (s * 32 + m) small) ∙ b))
        (h f (omega arith) (enter s m st) (record { held = rw ev (enter-held T s m ws fs vs small long b st R.held); stamped = stamped_stays T ss (enter_grows s m st) R.stamped }))

    pub state_goes : (ws' fs' v' ss' : List ℕ) → Goes T (λ (f : ℕ) (st : Trace). in_turn (on_item T s m f) (state_at T s).items st) ws fs v₁ ss ws' fs' v' ss' → Goes T (λ (f : ℕ) (st : Trace). state_of_reduce T f s m st) ws fs vs ss ws' fs' v' ss'
    state_goes ws' fs' v' ss' g = entering (Reducing T ws' fs' v' ss') g

    pub state_stops : Stops T (λ (f : ℕ) (st : Trace). in_turn (on_item T s m f) (state_at T s).items st) ws fs v₁ ss → Stops T (λ (f : ℕ) (st : Trace). state_of_reduce T f s m st) ws fs vs ss
    state_stops g = entering (λ (u : Trace). 1024 < length u.edges) g
