-- A repeated item of a state adds nothing: the turn of a trace over a state's items is the turn over those that can shift the nonterminal, each once (`shifting` of
-- specs/Shifting). An item that cannot shift it changes nothing; an item met before changes nothing, since its edges are there and the pairs that it leads to are entered.
use Rattle.std.proofs.Common.{◌≡◌, ℕ, zero, suc, Bool, true, false, eqb, ltb, List, [], ◌∷◌, sym, refl, ap, ◌∙◌, arith, eqb-true}
use Rattle.lr1_base.specs.repr.Lists.{mem, some?, keep}
use Rattle.lr1_base.specs.repr.Meaning.{Item, Table, state_at}
use Rattle.lr1_base.proofs.repr.Lists.{cases, clash, mem-nil, mem_no, mem-cons_here, mem-cons_there, keep-nil, keep-yes, keep_no}
use Rattle.lr1_base.proofs.repr.Tests.{some?-nil, some?_no}
use Rattle.first.specs.First.{nullable}
use Rattle.state_graph.specs.Walk.{traced_back}
use Rattle.trace_graph.specs.Graph.{Node, at_nonterminal, at_item, same_item, is_same_edge}
use Rattle.trace.specs.Traced.{Trace, pair, enter, add_to, owner_of, can_shift, prefix_of, suffix_of, in_turn}
use Rattle.trace.specs.Shifting.{distinct_from, distinct, shifting}
use Rattle.trace.specs.Shift.{epsilon_item, epsilon}
use Rattle.trace.specs.Reduce.{reduce_state_item, item_of_reduce, state_of_reduce}
use Rattle.trace.specs.Met.{ItemMet}
use Rattle.trace.proofs.Once.{add_there, add-has}
use Rattle.trace.proofs.Grows.{Grows, Adds, grows_seen, grows_some, turn_nil, turn_cons, turn_grows, epsilon_cannot, epsilon_past, epsilon_beginning, epsilon-zero, epsilon-entered, epsilon_new, epsilon_item_grows, epsilon_grows, reduce_cannot, reduce_nullable, reduce_ends, reduce_item_is, reduce_zero, reduce_entered, reduce_new, reduce_item_grows, reduce_state_item_grows, reduce_grows}
use Rattle.trace_graph.proofs.Labels.{item_equal}

-- the clauses of `distinct_from`

pub distinct_nil : (ms : List Item) → distinct_from ms [] ≡ []
unfolding distinct_from
distinct_nil ms = refl

pub distinct_there : (ms : List Item) (i : Item) (is : List Item) → some? (same_item i) ms ≡ true → distinct_from ms (i ∷ is) ≡ distinct_from ms is
unfolding distinct_from
distinct_there ms i is e = rw (e, distinct_from)

pub distinct_new : (ms : List Item) (i : Item) (is : List Item) → some? (same_item i) ms ≡ false → distinct_from ms (i ∷ is) ≡ i ∷ distinct_from (i ∷ ms) is
unfolding distinct_from
distinct_new ms i is e = rw (e, distinct_from)

-- a step after which its item is met, which changes nothing where its item is met
pub record Meets (step : Item → Trace → Trace) (Met : Item → Trace → Type 0) : Type 0 where
  pub adds : (i : Item) → Adds (step i)
  pub met : (i : Item) (st : Trace) → Met i (step i st)
  pub still : (i : Item) (st : Trace) → Met i st → step i st ≡ st
  pub stays : (i : Item) (st to : Trace) → Grows st to → Met i st → Met i to

module _ (step : Item → Trace → Trace) (Met : Item → Trace → Type 0) (M : Meets step Met) where
  turn_distinct : (is ms : List Item) (st : Trace) → ((j : Item) → some? (same_item j) ms ≡ true → Met j st) → in_turn step (distinct_from ms is) st ≡ in_turn step is st
  turn_distinct [] ms st h = rw (distinct_nil ms)
  turn_distinct (i ∷ is) ms st h =
      let old = turn_distinct is ms st h in
      let new = turn_distinct is (i ∷ ms) (step i st) in
      cases (some? (same_item i) ms)
      (λ e.
      rw (distinct_there ms i is e) (old ∙ ap (in_turn step is) (sym (M.still i st (h i e))) ∙ sym (turn_cons step i is st)))
      (λ e.
      rw (distinct_new ms i is e) (turn_cons step i (distinct_from (i ∷ ms) is) st ∙ new among ∙ sym (turn_cons step i is st)))
    where
      among : (j : Item) → some? (same_item j) (i ∷ ms) ≡ true → Met j (step i st)
      among j e =
          cases (same_item j i)
          (λ q. rw (item_equal j i q) (M.met i st))
          (λ q. M.stays j st (step i st) (M.adds i st) (h j (sym (some?_no (same_item j) i ms q) ∙ e)))

  -- an item of a turn is met after it
  turn_met : (is : List Item) (i : Item) → some? (same_item i) is ≡ true → (st : Trace) → Met i (in_turn step is st)
  turn_met [] i h st = clash (some? (same_item i) []) h (some?-nil (same_item i))
  turn_met (k ∷ is) i h st =
      let rest = turn_met is i in
      rw (turn_cons step k is st)
      (cases (same_item i k)
      (λ q. rw (item_equal i k q) (M.stays k (step k st) (in_turn step is (step k st)) (turn_grows step M.adds is (step k st)) (M.met k st)))
      (λ q. rest (sym (some?_no (same_item i) k is q) ∙ h) (step k st)))

  turn_keep : (t : Item → Bool) → ((i : Item) (st : Trace) → t i ≡ false → step i st ≡ st) → (is : List Item) (st : Trace) → in_turn step (keep t is) st ≡ in_turn step is st
  turn_keep t h [] st = rw (keep-nil t)
  turn_keep t h (i ∷ is) st =
      let rest = turn_keep t h is in
      cases (t i)
      (λ e. rw (keep-yes t i is e) (turn_cons step i (keep t is) st ∙ rest (step i st) ∙ sym (turn_cons step i is st)))
      (λ e. rw (keep_no t i is e) (rest st ∙ ap (in_turn step is) (sym (h i st e)) ∙ sym (turn_cons step i is st)))

  pub turn_shifting : (T : Table) (s n : ℕ) → ((i : Item) (st : Trace) → can_shift T n i ≡ false → step i st ≡ st) → (st : Trace)
      → in_turn step (shifting T s n) st ≡ in_turn step (state_at T s).items st
  unfolding shifting distinct
  turn_shifting T s n h st =
      turn_distinct (keep (can_shift T n) (state_at T s).items) [] st (λ j e. clash (some? (same_item j) []) e (some?-nil (same_item j)))
      ∙ turn_keep (can_shift T n) h (state_at T s).items st

-- a turn of which no step changes anything
turn_still : (f : ℕ → Trace → Trace) (xs : List ℕ) (st : Trace) → ((x : ℕ) → mem x xs ≡ true → f x st ≡ st) → in_turn f xs st ≡ st
turn_still f [] st h = turn_nil f st
turn_still f (x ∷ xs) st h =
    turn_cons f x xs st ∙ ap (in_turn f xs) (h x (mem-cons_here x xs)) ∙ turn_still f xs st (λ y m. h y (mem-cons_there y x xs m))

-- the pair is entered, unless there is no fuel to enter it
Entered : ℕ → ℕ → ℕ → Trace → Type 0
Entered f p m st = (f ≡ 0 → ⊥) → mem (pair p m) st.seen ≡ true

entered_stays : (f p m : ℕ) (st to : Trace) → Grows st to → Entered f p m st → Entered f p m to
unfolding Entered
entered_stays f p m st to g h ne = grows_seen g (pair p m) (h ne)

enter-has : (s n : ℕ) (st : Trace) → mem (pair s n) (enter s n st).seen ≡ true
unfolding enter
enter-has s n st = mem-cons_here (pair s n) st.seen

module _ (T : Table) where
  -- the edge is there
  Known : Node → Node → Item → Trace → Type 0
  Known v w i st = some? (is_same_edge T.productions (record { source = v; target = w; label = i })) st.edges ≡ true

  known_still : (v w : Node) (i : Item) (st : Trace) → Known v w i st → add_to T v w i st ≡ st
  unfolding Known add_to
  known_still v w i st h =
      let p = add_there T.productions (record { source = v; target = w; label = i }) st.edges h in
      λ j. record { edges = p j; seen = st.seen }

  known_met : (v w : Node) (i : Item) (st : Trace) → Known v w i (add_to T v w i st)
  unfolding Known add_to
  known_met v w i st = add-has T.productions (record { source = v; target = w; label = i }) st.edges

  known_stays : (v w : Node) (i : Item) (st to : Trace) → Grows st to → Known v w i st → Known v w i to
  unfolding Known
  known_stays v w i st to g h = grows_some g (is_same_edge T.productions (record { source = v; target = w; label = i })) h

  -- `backtrace_shift`

  epsilon_still : (f s m : ℕ) (st : Trace) → Entered f s m st → epsilon T f s m st ≡ st
  unfolding Entered
  epsilon_still zero s m st h = epsilon-zero T s m st
  epsilon_still (suc f) s m st h = epsilon-entered T (suc f) s m st (h (λ (z : suc f ≡ 0). omega arith))

  -- a step with fuel enters its pair
  pub epsilon_enters : (f s m : ℕ) (st : Trace) → mem (pair s m) (epsilon T (suc f) s m st).seen ≡ true
  epsilon_enters f s m st =
      cases (mem (pair s m) st.seen)
      (λ e. rw (epsilon-entered T (suc f) s m st e) e)
      (λ e. rw (epsilon_new T f s m st e) (grows_seen
      (turn_grows (epsilon_item T m (λ k u. epsilon T f s k u)) (epsilon_item_grows T m (λ k u. epsilon T f s k u) (epsilon_grows T f s)) (state_at T s).items (enter s m st))
      (pair s m) (enter-has s m st)))

  epsilon_met : (f s m : ℕ) (st : Trace) → Entered f s m (epsilon T f s m st)
  unfolding Entered
  epsilon_met zero s m st ne = absurd (ne refl)
  epsilon_met (suc f) s m st ne = epsilon_enters f s m st

  record Beginning (f s n : ℕ) (i : Item) (st : Trace) : Type 0 where
    edge : Known (at_nonterminal (owner_of T i)) (at_nonterminal n) i st
    followed : Entered f s (owner_of T i) st

  record ShiftMet (f s n : ℕ) (i : Item) (st : Trace) : Type 0 where
    past : can_shift T n i ≡ true → ltb 0 i.index ≡ true → Known (at_item i) (at_nonterminal n) i st
    first : can_shift T n i ≡ true → ltb 0 i.index ≡ false → Beginning f s n i st

  epsilon-meets : (f s n : ℕ) → Meets (epsilon_item T n (λ m u. epsilon T f s m u)) (ShiftMet f s n)
  epsilon-meets f s n = record {
    adds = epsilon_item_grows T n (λ m u. epsilon T f s m u) (epsilon_grows T f s);
    met = λ i st. record {
      past = λ e d. rw (epsilon_past T n (λ m u. epsilon T f s m u) i st e d) (known_met (at_item i) (at_nonterminal n) i st);
      first = λ e d.
          let to = add_to T (at_nonterminal (owner_of T i)) (at_nonterminal n) i st in
          rw (epsilon_beginning T n (λ m u. epsilon T f s m u) i st e d)
          (record {
            edge = known_stays (at_nonterminal (owner_of T i)) (at_nonterminal n) i to (epsilon T f s (owner_of T i) to) (epsilon_grows T f s (owner_of T i) to)
                (known_met (at_nonterminal (owner_of T i)) (at_nonterminal n) i st);
            followed = epsilon_met f s (owner_of T i) to;
          });
    };
    still = λ i st h.
        cases (can_shift T n i)
        (λ e. cases (ltb 0 i.index)
        (λ d. epsilon_past T n (λ m u. epsilon T f s m u) i st e d ∙ known_still (at_item i) (at_nonterminal n) i st (h.past e d))
        (λ d. epsilon_beginning T n (λ m u. epsilon T f s m u) i st e d
        ∙ ap (epsilon T f s (owner_of T i)) (known_still (at_nonterminal (owner_of T i)) (at_nonterminal n) i st (h.first e d).edge)
        ∙ epsilon_still f s (owner_of T i) st (h.first e d).followed))
        (λ e. epsilon_cannot T n (λ m u. epsilon T f s m u) i st e);
    stays = λ i st to g h. record {
      past = λ e d. known_stays (at_item i) (at_nonterminal n) i st to g (h.past e d);
      first = λ e d. record {
        edge = known_stays (at_nonterminal (owner_of T i)) (at_nonterminal n) i st to g (h.first e d).edge;
        followed = entered_stays f s (owner_of T i) st to g (h.first e d).followed;
      };
    };
  }

  -- so at any fuel
  pub epsilon-distinct : (f s n : ℕ) (st : Trace)
      → in_turn (epsilon_item T n (λ m u. epsilon T f s m u)) (shifting T s n) st ≡ in_turn (epsilon_item T n (λ m u. epsilon T f s m u)) (state_at T s).items st
  epsilon-distinct f s n st =
      turn_shifting (epsilon_item T n (λ m u. epsilon T f s m u)) (ShiftMet f s n) (epsilon-meets f s n) T s n (epsilon_cannot T n (λ m u. epsilon T f s m u)) st

  -- an item of the turn changes nothing after it
  pub epsilon_again : (f s n : ℕ) (is : List Item) (i : Item) → some? (same_item i) is ≡ true → (st : Trace)
      → epsilon_item T n (λ m u. epsilon T f s m u) i (in_turn (epsilon_item T n (λ m u. epsilon T f s m u)) is st) ≡ in_turn (epsilon_item T n (λ m u. epsilon T f s m u)) is st
  epsilon_again f s n is i h st =
      let step = epsilon_item T n (λ m u. epsilon T f s m u) in
      (epsilon-meets f s n).still i (in_turn step is st) (turn_met step (ShiftMet f s n) (epsilon-meets f s n) is i h st)

  pub epsilon-shifting : (f s n : ℕ) (st : Trace) → mem (pair s n) st.seen ≡ false
      → epsilon T (suc f) s n st ≡ in_turn (epsilon_item T n (λ m u. epsilon T f s m u)) (shifting T s n) (enter s n st)
  epsilon-shifting f s n st e = epsilon_new T f s n st e ∙ sym (epsilon-distinct f s n (enter s n st))

  -- `backtrace_reduce`

  reduce_still : (f s m : ℕ) (st : Trace) → Entered f s m st → state_of_reduce T f s m st ≡ st
  unfolding Entered
  reduce_still zero s m st h = reduce_zero T s m st
  reduce_still (suc f) s m st h = reduce_entered T (suc f) s m st (h (λ (z : suc f ≡ 0). omega arith))

  pub reduce_enters : (f s m : ℕ) (st : Trace) → mem (pair s m) (state_of_reduce T (suc f) s m st).seen ≡ true
  reduce_enters f s m st =
      cases (mem (pair s m) st.seen)
      (λ e. rw (reduce_entered T (suc f) s m st e) e)
      (λ e. rw (reduce_new T f s m st e) (grows_seen
      (turn_grows
      (reduce_state_item T m (λ i u. item_of_reduce T (λ p k v. state_of_reduce T f p k v) s i u))
      (reduce_state_item_grows T m (λ i u. item_of_reduce T (λ p k v. state_of_reduce T f p k v) s i u) (reduce_item_grows T (λ p k v. state_of_reduce T f p k v) (reduce_grows T f) s))
      (state_at T s).items (enter s m st))
      (pair s m) (enter-has s m st)))

  reduce_met : (f s m : ℕ) (st : Trace) → Entered f s m (state_of_reduce T f s m st)
  unfolding Entered
  reduce_met zero s m st ne = absurd (ne refl)
  reduce_met (suc f) s m st ne = reduce_enters f s m st

  -- a turn over states enters the pair of each
  all-entered : (f o : ℕ) (xs : List ℕ) (st : Trace) (p : ℕ) → mem p xs ≡ true → Entered f p o (in_turn (λ q u. state_of_reduce T f q o u) xs st)
  all-entered f o [] st p h = clash (mem p []) h (mem-nil p)
  all-entered f o (x ∷ xs) st p h =
      let rest = all-entered f o xs (state_of_reduce T f x o st) p in
      rw (turn_cons (λ q u. state_of_reduce T f q o u) x xs st)
      (cases (eqb p x)
      (λ e. here (eqb-true p x e))
      (λ e. rest (sym (mem_no p x xs e) ∙ h)))
    where
      here : p ≡ x → Entered f p o (in_turn (λ q u. state_of_reduce T f q o u) xs (state_of_reduce T f x o st))
      here e =
          rw e (entered_stays f x o (state_of_reduce T f x o st) (in_turn (λ q u. state_of_reduce T f q o u) xs (state_of_reduce T f x o st))
          (turn_grows (λ q u. state_of_reduce T f q o u) (λ q. reduce_grows T f q o) xs (state_of_reduce T f x o st))
          (reduce_met f x o st))

  -- the item's own edge is there and its pairs are entered, as far as there is fuel
  record Followed (f s : ℕ) (i : Item) (st : Trace) : Type 0 where
    edge : Known (at_nonterminal (owner_of T i)) (at_item i) i st
    followed : (p : ℕ) → mem p (traced_back T s (prefix_of T i)) ≡ true → Entered f p (owner_of T i) st

  item_met : (f s : ℕ) (i : Item) (st : Trace) → Followed f s i (item_of_reduce T (λ p m v. state_of_reduce T f p m v) s i st)
  item_met f s i st =
      let o = owner_of T i in
      let to = add_to T (at_nonterminal (owner_of T i)) (at_item i) i st in
      rw (reduce_item_is T (λ p m v. state_of_reduce T f p m v) s i st)
      (record {
        edge = known_stays (at_nonterminal (owner_of T i)) (at_item i) i to (in_turn (λ p u. state_of_reduce T f p o u) (traced_back T s (prefix_of T i)) to)
            (turn_grows (λ p u. state_of_reduce T f p o u) (λ p. reduce_grows T f p o) (traced_back T s (prefix_of T i)) to)
            (known_met (at_nonterminal (owner_of T i)) (at_item i) i st);
        followed = all-entered f o (traced_back T s (prefix_of T i)) to;
      })

  item_still : (f s : ℕ) (i : Item) (st : Trace) → Followed f s i st → item_of_reduce T (λ p m v. state_of_reduce T f p m v) s i st ≡ st
  item_still f s i st h =
      let o = owner_of T i in
      reduce_item_is T (λ p m v. state_of_reduce T f p m v) s i st
      ∙ ap (in_turn (λ p u. state_of_reduce T f p o u) (traced_back T s (prefix_of T i))) (known_still (at_nonterminal (owner_of T i)) (at_item i) i st h.edge)
      ∙ turn_still (λ p u. state_of_reduce T f p o u) (traced_back T s (prefix_of T i)) st (λ p m. reduce_still f p o st (h.followed p m))

  -- the same without fuel (specs/Met)

  pub met_still : (f s : ℕ) (i : Item) (st : Trace) → ItemMet T s i st → item_of_reduce T (λ p m v. state_of_reduce T f p m v) s i st ≡ st
  unfolding Known Entered
  met_still f s i st h = item_still f s i st (record { edge = h.edge; followed = λ p m ne. h.followed p m })

  pub met_after : (f s : ℕ) (i : Item) (st : Trace) → (f ≡ 0 → (p : ℕ) → mem p (traced_back T s (prefix_of T i)) ≡ true → mem (pair p (owner_of T i)) st.seen ≡ true)
      → ItemMet T s i (item_of_reduce T (λ p m v. state_of_reduce T f p m v) s i st)
  unfolding Known Entered
  met_after zero s i st z = record {
    edge = (item_met zero s i st).edge;
    followed = λ p m. grows_seen (reduce_item_grows T (λ p m v. state_of_reduce T zero p m v) (reduce_grows T zero) s i st) (pair p (owner_of T i)) (z refl p m);
  }
  met_after (suc f) s i st z = record {
    edge = (item_met (suc f) s i st).edge;
    followed = λ p m. (item_met (suc f) s i st).followed p m (λ (e : suc f ≡ 0). omega arith);
  }

  pub met_stays : (s : ℕ) (i : Item) (st to : Trace) → Grows st to → ItemMet T s i st → ItemMet T s i to
  unfolding Known
  met_stays s i st to g h = record {
    edge = known_stays (at_nonterminal (owner_of T i)) (at_item i) i st to g h.edge;
    followed = λ p m. grows_seen g (pair p (owner_of T i)) (h.followed p m);
  }

  record Nullable (f s n : ℕ) (i : Item) (st : Trace) : Type 0 where
    edge : Known (at_nonterminal (owner_of T i)) (at_nonterminal n) i st
    traced : Followed f s i st

  record ReduceMet (f s n : ℕ) (i : Item) (st : Trace) : Type 0 where
    ends : can_shift T n i ≡ true → nullable T (suffix_of T i) ≡ false → Known (at_item i) (at_nonterminal n) i st
    on : can_shift T n i ≡ true → nullable T (suffix_of T i) ≡ true → Nullable f s n i st

  reduce_meets : (f s n : ℕ) → Meets (reduce_state_item T n (λ i u. item_of_reduce T (λ p m v. state_of_reduce T f p m v) s i u)) (ReduceMet f s n)
  reduce_meets f s n = record {
    adds = reduce_state_item_grows T n (λ i u. item_of_reduce T (λ p m v. state_of_reduce T f p m v) s i u) (reduce_item_grows T (λ p m v. state_of_reduce T f p m v) (reduce_grows T f) s);
    met = λ i st. record {
      ends = λ e d. rw (reduce_ends T n (λ i u. item_of_reduce T (λ p m v. state_of_reduce T f p m v) s i u) i st e d) (known_met (at_item i) (at_nonterminal n) i st);
      on = λ e d.
          let to = add_to T (at_nonterminal (owner_of T i)) (at_nonterminal n) i st in
          rw (reduce_nullable T n (λ i u. item_of_reduce T (λ p m v. state_of_reduce T f p m v) s i u) i st e d)
          (record {
            edge = known_stays (at_nonterminal (owner_of T i)) (at_nonterminal n) i to (item_of_reduce T (λ p m v. state_of_reduce T f p m v) s i to)
                (reduce_item_grows T (λ p m v. state_of_reduce T f p m v) (reduce_grows T f) s i to)
                (known_met (at_nonterminal (owner_of T i)) (at_nonterminal n) i st);
            traced = item_met f s i to;
          });
    };
    still = λ i st h.
        cases (can_shift T n i)
        (λ e. cases (nullable T (suffix_of T i))
        (λ d. reduce_nullable T n (λ i u. item_of_reduce T (λ p m v. state_of_reduce T f p m v) s i u) i st e d
        ∙ ap (item_of_reduce T (λ p m v. state_of_reduce T f p m v) s i) (known_still (at_nonterminal (owner_of T i)) (at_nonterminal n) i st (h.on e d).edge)
        ∙ item_still f s i st (h.on e d).traced)
        (λ d. reduce_ends T n (λ i u. item_of_reduce T (λ p m v. state_of_reduce T f p m v) s i u) i st e d ∙ known_still (at_item i) (at_nonterminal n) i st (h.ends e d)))
        (λ e. reduce_cannot T n (λ i u. item_of_reduce T (λ p m v. state_of_reduce T f p m v) s i u) i st e);
    stays = λ i st to g h. record {
      ends = λ e d. known_stays (at_item i) (at_nonterminal n) i st to g (h.ends e d);
      on = λ e d. record {
        edge = known_stays (at_nonterminal (owner_of T i)) (at_nonterminal n) i st to g (h.on e d).edge;
        traced = record {
          edge = known_stays (at_nonterminal (owner_of T i)) (at_item i) i st to g (h.on e d).traced.edge;
          followed = λ p m. entered_stays f p (owner_of T i) st to g ((h.on e d).traced.followed p m);
        };
      };
    };
  }

  -- so at any fuel
  pub reduce_distinct : (f s n : ℕ) (st : Trace)
      → in_turn (reduce_state_item T n (λ i u. item_of_reduce T (λ p m v. state_of_reduce T f p m v) s i u)) (shifting T s n) st
      ≡ in_turn (reduce_state_item T n (λ i u. item_of_reduce T (λ p m v. state_of_reduce T f p m v) s i u)) (state_at T s).items st
  reduce_distinct f s n st =
      turn_shifting (reduce_state_item T n (λ i u. item_of_reduce T (λ p m v. state_of_reduce T f p m v) s i u)) (ReduceMet f s n) (reduce_meets f s n) T s n
      (reduce_cannot T n (λ i u. item_of_reduce T (λ p m v. state_of_reduce T f p m v) s i u)) st

  pub reduce_shifting : (f s n : ℕ) (st : Trace) → mem (pair s n) st.seen ≡ false
      → state_of_reduce T (suc f) s n st ≡ in_turn (reduce_state_item T n (λ i u. item_of_reduce T (λ p m v. state_of_reduce T f p m v) s i u)) (shifting T s n) (enter s n st)
  reduce_shifting f s n st e = reduce_new T f s n st e ∙ sym (reduce_distinct f s n (enter s n st))
