-- What holds of every accepted trace (`Sound` of specs/Sound), of both traces of any item in range from any state.
use Rattle.std.proofs.Common.{◌≡◌, ℕ, zero, suc, ◌<◌, Bool, true, false, ltb, leb, List, [], ◌∷◌, ◌++◌, length, sym, refl, ap, ◌∙◌, inl, inr, arith, ltb-false, ltb-true, lt-ltb, le-leb, leb-true}
use mathlib.Core.List.Memᴰ
use mathlib.Core.List.{Memᴰ}
use native.Mathlib.Decide.{dec_lt}
use lib.ListN.{get_or-eq_default}
use Rattle.lr1_base.specs.repr.Lists.{mem, some?}
use Rattle.lr1_base.specs.repr.Meaning.{Item, State, no_state, Table, state_at, production_at, All, TableFits, StateFits, ItemFits}
use Rattle.lr1_base.proofs.repr.Lists.{cases, clash}
use Rattle.lr1_base.proofs.repr.Tests.{All_at, some?-nil, some?-yes, some?_no}
use Rattle.first.specs.First.{nullable}
use Rattle.state_graph.specs.Walk.{traced_back}
use Rattle.trace_graph.specs.Graph.{Node, at_nonterminal, at_item, TraceEdge, is_same_node, is_same_edge, add, is_node_of}
use Rattle.trace_graph.specs.Fits.{item_is_fit, once}
use Rattle.trace_graph.specs.Index.{InRange}
use Rattle.trace_graph.proofs.RoundTrip.{EdgeInRange, graph_fits_alone}
use Rattle.trace.specs.Traced.{Trace, untraced, pair, enter, add_to, owner_of, can_shift, prefix_of, suffix_of, in_turn, pairs}
use Rattle.trace.specs.Shift.{epsilon_item, epsilon, shift_trace, shift_edges}
use Rattle.trace.specs.Reduce.{reduce_state_item, item_of_reduce, state_of_reduce, reduce_trace, reduce_edges}
use Rattle.trace.specs.Sound.{apart_ends, owner_of_node, EdgeSound, ShiftStep, ReduceStep, Known, Rooted, bare, one_more, Sound}
use Rattle.trace.proofs.Once.{edge_equal, add_there, add_new, add-all, add_once, once-nil}
use Rattle.trace.proofs.Grows.{Adds, Grows, grows_some, turn_nil, turn_cons, turn_grows, epsilon_cannot, epsilon_past, epsilon_beginning, epsilon-zero, epsilon-entered, epsilon_new, epsilon_item_grows, epsilon_grows, reduce_cannot, reduce_nullable, reduce_ends, reduce_item_is, reduce_zero, reduce_entered, reduce_new, reduce_item_grows, reduce_state_item_grows, reduce_grows}
use Rattle.trace.proofs.Fuel.{owner_lt}
use Rattle.lr1_base.proofs.laws.Bools.{and-true}
use Rattle.trace_graph.proofs.Labels.{node_refl}

-- a fact of a whole list holds of its members
all-member {ℓ} : {A : Type ℓ} (P : A → Type 0) (x : A) (xs : List A) → Memᴰ x xs → All P xs → P x
unfolding All
all-member P x (y ∷ ys) (Memᴰ.head q) h = rw q h.0
all-member P x (y ∷ ys) (Memᴰ.tail m) h = all-member P x ys m h.1
all-member {A = A} P x [] x3 h = elim x3 [ ]

-- a fact that each step keeps is kept by the turn
pub turn-keeps {ℓ} : {A : Type ℓ} (P : Trace → Type 0) (f : A → Trace → Trace) (xs : List A)
    → ((x : A) → Memᴰ x xs → (st : Trace) → P st → P (f x st)) → (st : Trace) → P st → P (in_turn f xs st)
turn-keeps P f [] h st p = rw (turn_nil f st) p
turn-keeps P f (x ∷ xs) h st p =
    rw (turn_cons f x xs st) (turn-keeps P f xs (λ y m. h y (Memᴰ.tail m)) (f x st) (h x (Memᴰ.head refl) st p))

-- an item in range, as a fact and as a test
pub item_fits : (T : Table) (i : Item) → ItemFits T i → item_is_fit T.productions i.production i.index ≡ true
unfolding item_is_fit
item_fits T i h = rw (lt-ltb i.production (length T.productions) h.production) (le-leb i.index (length (production_at T i.production).symbols) h.index)

pub fits-item : (T : Table) (i : Item) → item_is_fit T.productions i.production i.index ≡ true → ItemFits T i
unfolding item_is_fit
fits-item T i h =
    let r = and-true (ltb i.production (length T.productions)) (leb i.index (length (production_at T i.production).symbols)) h in
    record {
      production = ltb-true i.production (length T.productions) r.0;
      index = leb-true i.index (length (production_at T i.production).symbols) r.1;
    }

-- what is known stays known, and the source of an edge is known once it is added

some_member : (t : TraceEdge → Bool) (es : List TraceEdge) → some? t es ≡ true → (d : TraceEdge) × Memᴰ d es × (t d ≡ true)
some_member t [] h = clash (some? t []) h (some?-nil t)
some_member t (x ∷ es) h =
    let rest = some_member t es in
    cases (t x)
    (λ e. (x, Memᴰ.head refl, e))
    (λ e. let r = rest (sym (some?_no t x es e) ∙ h) in (r.0, Memᴰ.tail r.1, r.2))

known_more : (T : Table) (i : Item) (es more : List TraceEdge) (n : ℕ) → Known T i es n → Known T i (es ++ more) n
known_more T i es more n (inl e) = inl e
known_more T i es more n (inr k) = inr (k.0, Memᴰ.append_left more k.1, k.2)

known_grows : (T : Table) (i : Item) (st to : Trace) (n : ℕ) → Grows st to → Known T i st.edges n → Known T i to.edges n
known_grows T i st to n g k = rw g.edges (known_more T i st.edges g.more n k)

known_add : (T : Table) (i : Item) (n : ℕ) (w : Node) (l : Item) (st : Trace) → Known T i (add_to T (at_nonterminal n) w l st).edges n
unfolding add_to
known_add T i n w l st =
    let e : TraceEdge = record { source = at_nonterminal n; target = w; label = l } in
    cases (some? (is_same_edge T.productions e) st.edges)
    (λ h.
    let r = some_member (is_same_edge T.productions e) st.edges h in
    rw (add_there T.productions e st.edges h) (inr (r.0, r.1, sym (edge_equal T.productions e r.0 r.2).0)))
    (λ h. rw (add_new T.productions e st.edges h) (inr (e, Memᴰ.append_right st.edges (Memᴰ.head refl), refl)))

-- the edges so far, each of which is a step of the trace; i: the traced item
record Good (T : Table) (Step : TraceEdge → Type 0) (i : Item) (st : Trace) : Type 0 where
  edges : All (EdgeSound T) st.edges
  once : once T.productions st.edges ≡ true
  steps : All Step st.edges
  rooted : Rooted T i st.edges

-- and a nonterminal from which the trace may go on
record Going (T : Table) (Step : TraceEdge → Type 0) (i : Item) (n : ℕ) (st : Trace) : Type 0 where
  good : Good T Step i st
  known : Known T i st.edges n

module _ (T : Table) (fits : TableFits T) where
  -- the three kinds of edges

  pub to_item_sound : (i : Item) → ItemFits T i → EdgeSound T (record { source = at_nonterminal (owner_of T i); target = at_item i; label = i })
  unfolding owner_of_node InRange apart_ends
  to_item_sound i h = record {
    source = owner_lt T fits i;
    target = item_fits T i h;
    label = item_fits T i h;
    owner = refl;
    cursor = λ n e. let z : ◌≡◌ {A = ℕ} 0 1 = cc in absurd (omega arith);
    from_item_lem = λ j e. let z : ◌≡◌ {A = ℕ} 0 1 = cc in absurd (omega arith);
    to_item = λ j e. (cc);
    apart = refl;
  }

  pub from_item_sound : (n : ℕ) (i : Item) → n < length T.nonterminals → ItemFits T i → can_shift T n i ≡ true
      → EdgeSound T (record { source = at_item i; target = at_nonterminal n; label = i })
  unfolding owner_of_node InRange apart_ends
  from_item_sound n i l h c = record {
    source = item_fits T i h;
    target = l;
    label = item_fits T i h;
    owner = refl;
    cursor = λ m e. let q : n ≡ m = cc in rw (← q) c;
    from_item_lem = λ j e. (cc);
    to_item = λ j e. let z : ◌≡◌ {A = ℕ} 0 1 = cc in absurd (omega arith);
    apart = refl;
  }

  pub between_sound : (n : ℕ) (i : Item) → n < length T.nonterminals → ItemFits T i → can_shift T n i ≡ true
      → EdgeSound T (record { source = at_nonterminal (owner_of T i); target = at_nonterminal n; label = i })
  unfolding owner_of_node InRange apart_ends
  between_sound n i l h c = record {
    source = owner_lt T fits i;
    target = l;
    label = item_fits T i h;
    owner = refl;
    cursor = λ m e. let q : n ≡ m = cc in rw (← q) c;
    from_item_lem = λ j e. let z : ◌≡◌ {A = ℕ} 0 1 = cc in absurd (omega arith);
    to_item = λ j e. let z : ◌≡◌ {A = ℕ} 0 1 = cc in absurd (omega arith);
    apart = refl;
  }

  -- the items of a state are in range; a number that is no state's has none
  pub state_item : (s : ℕ) (i : Item) → Memᴰ i (state_at T s).items → ItemFits T i
  state_item s i m = go (dec_lt s (length T.states))
    where
      none_in : Memᴰ i [] → ItemFits T i
      none_in = λ k. absurd (mathlib.Core.List.Memᴰ.not-nil k)

      go : Dec (s < length T.states) → ItemFits T i
      go (yes h) = all-member (ItemFits T) i (state_at T s).items m (All_at (StateFits T) T.states s no_state fits.states h).items
      go (no h) = none_in (rw (ap (λ (q : State). q.items) (get_or-eq_default T.states no_state {n = s} (omega arith))) at m)

  -- adding and entering

  module _ (Step : TraceEdge → Type 0) (i₀ : Item) where
    enter_going : (s n m : ℕ) (st : Trace) → Going T Step i₀ m st → Going T Step i₀ m (enter s n st)
    unfolding enter
    enter_going s n m st g = record {
      good = record { edges = g.good.edges; once = g.good.once; steps = g.good.steps; rooted = g.good.rooted };
      known = g.known;
    }

    add_rooted : (e : TraceEdge) (es : List TraceEdge) → ((n : ℕ) → e.target ≡ at_nonterminal n → Known T i₀ es n) → Rooted T i₀ es → Rooted T i₀ (add T.productions e es)
    add_rooted e es k r =
        cases (some? (is_same_edge T.productions e) es)
        (λ h. rw (add_there T.productions e es h) r)
        (λ h. rw (add_new T.productions e es h) (one_more e r k))

    add_good : (v w : Node) (i : Item) (st : Trace) → EdgeSound T (record { source = v; target = w; label = i }) → Step (record { source = v; target = w; label = i })
        → ((n : ℕ) → w ≡ at_nonterminal n → Known T i₀ st.edges n) → Good T Step i₀ st → Good T Step i₀ (add_to T v w i st)
    unfolding add_to
    add_good v w i st e t k g = record {
      edges = add-all T.productions (EdgeSound T) (record { source = v; target = w; label = i }) st.edges e g.edges;
      once = add_once T.productions (record { source = v; target = w; label = i }) st.edges g.once;
      steps = add-all T.productions Step (record { source = v; target = w; label = i }) st.edges t g.steps;
      rooted = add_rooted (record { source = v; target = w; label = i }) st.edges k g.rooted;
    }

    -- into a nonterminal that is known
    into : (n : ℕ) (st : Trace) → Known T i₀ st.edges n → (m : ℕ) → at_nonterminal n ≡ at_nonterminal m → Known T i₀ st.edges m
    into n st k m e = let q : n ≡ m = cc in rw (← q) k

    -- into an item
    no_nonterminal : (i : Item) (st : Trace) (n : ℕ) → at_item i ≡ at_nonterminal n → Known T i₀ st.edges n
    no_nonterminal i st n e = let z : ◌≡◌ {A = ℕ} 0 1 = cc in absurd (omega arith)

    -- a fact of both kinds that each step keeps
    turn_going : {A : Type 0} (n : ℕ) (f : A → Trace → Trace) (xs : List A) → ((x : A) → Adds (f x))
        → ((x : A) → Memᴰ x xs → (st : Trace) → Going T Step i₀ n st → Good T Step i₀ (f x st)) → (st : Trace) → Going T Step i₀ n st → Good T Step i₀ (in_turn f xs st)
    turn_going n f xs a h st g =
        (turn-keeps (Going T Step i₀ n) f xs (λ x m st g. record { good = h x m st g; known = known_grows T i₀ st (f x st) n (a x st) g.known }) st g).good

  -- `backtrace_shift`

  shift_from_item : (v : Item) (n : ℕ) (i : Item) → ShiftStep T (record { source = at_item v; target = at_nonterminal n; label = i })
  shift_from_item v n i = record { beginning = λ m k e f. let z : ◌≡◌ {A = ℕ} 0 1 = cc in absurd (omega arith) }

  shift_between : (m n : ℕ) (i : Item) → ltb 0 i.index ≡ false → ShiftStep T (record { source = at_nonterminal m; target = at_nonterminal n; label = i })
  shift_between m n i d = record { beginning = λ _ _ _ _. let l = ltb-false 0 i.index d in omega arith }

  shift_to_item : (m : ℕ) (i : Item) → ShiftStep T (record { source = at_nonterminal m; target = at_item i; label = i })
  shift_to_item m i = record { beginning = λ _ k e f. let z : ◌≡◌ {A = ℕ} 0 1 = cc in absurd (omega arith) }

  module _ (i₀ : Item) where
    epsilon_item_good : (n : ℕ) (go : ℕ → Trace → Trace) → n < length T.nonterminals
        → ((m : ℕ) (st : Trace) → m < length T.nonterminals → Going T (ShiftStep T) i₀ m st → Good T (ShiftStep T) i₀ (go m st))
        → (i : Item) → ItemFits T i → (st : Trace) → Going T (ShiftStep T) i₀ n st → Good T (ShiftStep T) i₀ (epsilon_item T n go i st)
    epsilon_item_good n go l h i f st g =
        cases (can_shift T n i)
        (λ e. cases (ltb 0 i.index)
        (λ d. rw (epsilon_past T n go i st e d)
        (add_good (ShiftStep T) i₀ (at_item i) (at_nonterminal n) i st (from_item_sound n i l f e) (shift_from_item i n i) (into (ShiftStep T) i₀ n st g.known) g.good))
        (λ d.
        let to = add_to T (at_nonterminal (owner_of T i)) (at_nonterminal n) i st in
        rw (epsilon_beginning T n go i st e d)
        (h (owner_of T i) to (owner_lt T fits i) (record {
          good = add_good (ShiftStep T) i₀ (at_nonterminal (owner_of T i)) (at_nonterminal n) i st (between_sound n i l f e) (shift_between (owner_of T i) n i d) (into (ShiftStep T) i₀ n st g.known) g.good;
          known = known_add T i₀ (owner_of T i) (at_nonterminal n) i st;
        }))))
        (λ e. rw (epsilon_cannot T n go i st e) g.good)

    epsilon_good : (f s n : ℕ) (st : Trace) → n < length T.nonterminals → Going T (ShiftStep T) i₀ n st → Good T (ShiftStep T) i₀ (epsilon T f s n st)
    epsilon_good zero s n st l g = rw (epsilon-zero T s n st) g.good
    epsilon_good (suc f) s n st l g =
        let ih = epsilon_good f s in
        cases (mem (pair s n) st.seen)
        (λ e. rw (epsilon-entered T (suc f) s n st e) g.good)
        (λ e. rw (epsilon_new T f s n st e)
        (turn_going (ShiftStep T) i₀ n (epsilon_item T n (λ m u. epsilon T f s m u)) (state_at T s).items
        (epsilon_item_grows T n (λ m u. epsilon T f s m u) (epsilon_grows T f s))
        (λ i m. epsilon_item_good n (λ m u. epsilon T f s m u) l ih i (state_item s i m))
        (enter s n st) (enter_going (ShiftStep T) i₀ s n n st g)))

  -- `backtrace_reduce`

  reduce_from_item : (v : Item) (n : ℕ) (i : Item) → ReduceStep T (record { source = at_item v; target = at_nonterminal n; label = i })
  reduce_from_item v n i = record { ending = λ m k e f. let z : ◌≡◌ {A = ℕ} 0 1 = cc in absurd (omega arith) }

  reduce_to_item : (m : ℕ) (i : Item) → ReduceStep T (record { source = at_nonterminal m; target = at_item i; label = i })
  reduce_to_item m i = record { ending = λ _ k e f. let z : ◌≡◌ {A = ℕ} 0 1 = cc in absurd (omega arith) }

  module _ (i₀ : Item) where
    reduce_item_good : (go : ℕ → ℕ → Trace → Trace) → ((p m : ℕ) → Adds (go p m))
        → ((p m : ℕ) (st : Trace) → m < length T.nonterminals → Going T (ReduceStep T) i₀ m st → Good T (ReduceStep T) i₀ (go p m st))
        → (s : ℕ) (i : Item) → ItemFits T i → (st : Trace) → Good T (ReduceStep T) i₀ st → Good T (ReduceStep T) i₀ (item_of_reduce T go s i st)
    reduce_item_good go a h s i f st g =
        let to = add_to T (at_nonterminal (owner_of T i)) (at_item i) i st in
        rw (reduce_item_is T go s i st)
        (turn_going (ReduceStep T) i₀ (owner_of T i) (λ p u. go p (owner_of T i) u) (traced_back T s (prefix_of T i)) (λ p. a p (owner_of T i))
        (λ p _ u. h p (owner_of T i) u (owner_lt T fits i)) to (record {
          good = add_good (ReduceStep T) i₀ (at_nonterminal (owner_of T i)) (at_item i) i st (to_item_sound i f) (reduce_to_item (owner_of T i) i) (no_nonterminal (ReduceStep T) i₀ i st) g;
          known = known_add T i₀ (owner_of T i) (at_item i) i st;
        }))

    reduce_state_item_good : (n : ℕ) (go : Item → Trace → Trace) → n < length T.nonterminals
        → ((i : Item) → ItemFits T i → (st : Trace) → Good T (ReduceStep T) i₀ st → Good T (ReduceStep T) i₀ (go i st))
        → (i : Item) → ItemFits T i → (st : Trace) → Going T (ReduceStep T) i₀ n st → Good T (ReduceStep T) i₀ (reduce_state_item T n go i st)
    reduce_state_item_good n go l h i f st g =
        cases (can_shift T n i)
        (λ e. cases (nullable T (suffix_of T i))
        (λ d.
        let to = add_to T (at_nonterminal (owner_of T i)) (at_nonterminal n) i st in
        rw (reduce_nullable T n go i st e d)
        (h i f to (add_good (ReduceStep T) i₀ (at_nonterminal (owner_of T i)) (at_nonterminal n) i st (between_sound n i l f e) (record { ending = λ _ _ _ _. d }) (into (ReduceStep T) i₀ n st g.known) g.good)))
        (λ d. rw (reduce_ends T n go i st e d)
        (add_good (ReduceStep T) i₀ (at_item i) (at_nonterminal n) i st (from_item_sound n i l f e) (reduce_from_item i n i) (into (ReduceStep T) i₀ n st g.known) g.good)))
        (λ e. rw (reduce_cannot T n go i st e) g.good)

    reduce_good : (f s n : ℕ) (st : Trace) → n < length T.nonterminals → Going T (ReduceStep T) i₀ n st → Good T (ReduceStep T) i₀ (state_of_reduce T f s n st)
    reduce_good zero s n st l g = rw (reduce_zero T s n st) g.good
    reduce_good (suc f) s n st l g =
        let ih = reduce_good f in
        cases (mem (pair s n) st.seen)
        (λ e. rw (reduce_entered T (suc f) s n st e) g.good)
        (λ e. rw (reduce_new T f s n st e)
        (turn_going (ReduceStep T) i₀ n (reduce_state_item T n (λ i u. item_of_reduce T (λ p m v. state_of_reduce T f p m v) s i u)) (state_at T s).items
        (reduce_state_item_grows T n (λ i u. item_of_reduce T (λ p m v. state_of_reduce T f p m v) s i u) (reduce_item_grows T (λ p m v. state_of_reduce T f p m v) (reduce_grows T f) s))
        (λ i m. reduce_state_item_good n (λ i u. item_of_reduce T (λ p m v. state_of_reduce T f p m v) s i u) l (reduce_item_good (λ p m v. state_of_reduce T f p m v) (reduce_grows T f) ih s) i (state_item s i m))
        (enter s n st) (enter_going (ReduceStep T) i₀ s n n st g)))

  -- the traces

  pub in_range : (es : List TraceEdge) → All (EdgeSound T) es → All (EdgeInRange (length T.nonterminals) T.productions) es
  unfolding All
  in_range [] h = tt
  in_range (e ∷ es) h = (record { source = h.0.source; target = h.0.target; label = h.0.label }, in_range es h.1)

  untraced_good : (Step : TraceEdge → Type 0) (i : Item) → Good T Step i untraced
  unfolding untraced All
  untraced_good Step i = record { edges = tt; once = once-nil T.productions; steps = tt; rooted = bare }

  -- the first edge of a trace leads into the traced item
  first_node : (i : Item) → is_node_of (at_item i) (add_to T (at_nonterminal (owner_of T i)) (at_item i) i untraced).edges ≡ true
  unfolding is_node_of add_to untraced is_same_node
  first_node i =
      let e : TraceEdge = record { source = at_nonterminal (owner_of T i); target = at_item i; label = i } in
      rw (add_new T.productions (record { source = at_nonterminal (owner_of T i); target = at_item i; label = i }) [] (some?-nil (is_same_edge T.productions e)))
      (some?-yes (λ (d : TraceEdge). elim (is_same_node (at_item i) d.source) [ true ↦ true | false ↦ is_same_node (at_item i) d.target ]) e [] (node_refl (at_item i)))

  node_stays : (v : Node) (st to : Trace) → Grows st to → is_node_of v st.edges ≡ true → is_node_of v to.edges ≡ true
  unfolding is_node_of
  node_stays v st to g h = grows_some g (λ (e : TraceEdge). elim (is_same_node v e.source) [ true ↦ true | false ↦ is_same_node v e.target ]) h

  sound_of : (Step : TraceEdge → Type 0) (i : Item) (st : Trace) → Good T Step i st → is_node_of (at_item i) st.edges ≡ true → Sound T i st.edges
  sound_of Step i st g h = record {
    edges = g.edges;
    once = g.once;
    node = h;
    rooted = g.rooted;
    fits = λ l. graph_fits_alone (length T.nonterminals) T.productions st.edges l (in_range st.edges g.edges) g.once;
  }

  module _ (s : ℕ) (i : Item) (f : ItemFits T i) where
    shift_good : Good T (ShiftStep T) i (shift_trace T s i)
    unfolding shift_trace
    shift_good =
        let to = add_to T (at_nonterminal (owner_of T i)) (at_item i) i untraced in
        let o = owner_of T i in
        turn_going (ShiftStep T) i o (λ p u. epsilon T pairs p o u) (traced_back T s (prefix_of T i)) (λ p. epsilon_grows T pairs p o)
        (λ p _ u. epsilon_good i pairs p o u (owner_lt T fits i)) to (record {
          good = add_good (ShiftStep T) i (at_nonterminal o) (at_item i) i untraced (to_item_sound i f) (shift_to_item o i) (no_nonterminal (ShiftStep T) i i untraced) (untraced_good (ShiftStep T) i);
          known = inl refl;
        })

    reduce_trace_good : Good T (ReduceStep T) i (reduce_trace T s i)
    unfolding reduce_trace
    reduce_trace_good = reduce_item_good i (λ p m v. state_of_reduce T pairs p m v) (reduce_grows T pairs) (reduce_good i pairs) s i f untraced (untraced_good (ReduceStep T) i)

    pub shift_sound : Sound T i (shift_edges T s i)
    unfolding shift_edges shift_trace
    shift_sound =
        let to = add_to T (at_nonterminal (owner_of T i)) (at_item i) i untraced in
        let o = owner_of T i in
        sound_of (ShiftStep T) i (shift_trace T s i) shift_good
        (node_stays (at_item i) to (shift_trace T s i) (turn_grows (λ p u. epsilon T pairs p o u) (λ p. epsilon_grows T pairs p o) (traced_back T s (prefix_of T i)) to) (first_node i))

    pub shift_steps : All (ShiftStep T) (shift_edges T s i)
    unfolding shift_edges
    shift_steps = shift_good.steps

    pub reduce_sound : Sound T i (reduce_edges T s i)
    unfolding reduce_edges reduce_trace
    reduce_sound =
        let to = add_to T (at_nonterminal (owner_of T i)) (at_item i) i untraced in
        let o = owner_of T i in
        sound_of (ReduceStep T) i (reduce_trace T s i) reduce_trace_good
        (rw (reduce_item_is T (λ p m v. state_of_reduce T pairs p m v) s i untraced)
        (node_stays (at_item i) to (in_turn (λ p u. state_of_reduce T pairs p o u) (traced_back T s (prefix_of T i)) to)
        (turn_grows (λ p u. state_of_reduce T pairs p o u) (λ p. reduce_grows T pairs p o) (traced_back T s (prefix_of T i)) to) (first_node i)))

    pub reduce_steps : All (ReduceStep T) (reduce_edges T s i)
    unfolding reduce_edges
    reduce_steps = reduce_trace_good.steps
