-- Tracing only adds: the edges of a step's result begin with those that were there, and its entered pairs end with those that were there. So what is there stays there, the number of
-- edges never falls, and the pairs that are left never rise. The clauses of both traces (specs/Shift, specs/Reduce) stand here as laws.
use Rattle.std.proofs.Common.{◌≡◌, ℕ, zero, suc, ◌<◌, ◌≤◌, Bool, true, false, ltb, List, [], ◌∷◌, ◌++◌, length, sym, refl, ap, ◌∙◌, append_assoc, append-nil, arith, length-append}
use mathlib.Core.Bool.{or-true}
use Rattle.lr1_base.specs.repr.Lists.{mem, some?}
use Rattle.lr1_base.specs.repr.Meaning.{Item, Table, state_at}
use Rattle.lr1_base.proofs.repr.Lists.{cases, mem-append}
use Rattle.lr1_base.proofs.repr.Tests.{some?-append}
use Rattle.first.specs.First.{nullable}
use Rattle.state_graph.specs.Walk.{traced_back}
use Rattle.trace_graph.specs.Graph.{Node, at_nonterminal, at_item, TraceEdge}
use Rattle.trace.specs.Traced.{Trace, pair, enter, add_to, owner_of, can_shift, prefix_of, suffix_of, in_turn}
use Rattle.trace.specs.Seen.{unentered}
use Rattle.trace.specs.Shift.{epsilon_item, epsilon}
use Rattle.trace.specs.Reduce.{reduce_state_item, item_of_reduce, state_of_reduce}
use Rattle.trace.proofs.Seen.{unentered-append, unentered-cons, pair_lt}
use Rattle.trace.proofs.Once.{add-more}

pub record Grows (st to : Trace) : Type 0 where
  pub more : List TraceEdge
  pub edges : to.edges ≡ st.edges ++ more
  pub entered : List ℕ
  pub seen : to.seen ≡ entered ++ st.seen

-- a step that only adds
abbrev pub Adds : (Trace → Trace) → Type 0
Adds f = (st : Trace) → Grows st (f st)

pub grows_refl : (st : Trace) → Grows st st
grows_refl st = record { more = []; edges = sym (append-nil st.edges); entered = []; seen = refl }

pub grows_trans : {a b c : Trace} → Grows a b → Grows b c → Grows a c
grows_trans {a} {b} {c} p q = record {
  more = p.more ++ q.more;
  edges = q.edges ∙ rw p.edges (append_assoc a.edges p.more q.more);
  entered = q.entered ++ p.entered;
  seen = q.seen ∙ rw p.seen (sym (append_assoc q.entered p.entered a.seen));
}

-- what growing keeps

pub grows_seen : {a b : Trace} → Grows a b → (k : ℕ) → mem k a.seen ≡ true → mem k b.seen ≡ true
grows_seen {a} {b} p k h = rw (p.seen, mem-append k p.entered a.seen, h) (or-true (mem k p.entered))

pub grows_some : {a b : Trace} → Grows a b → (t : TraceEdge → Bool) → some? t a.edges ≡ true → some? t b.edges ≡ true
grows_some {a} {b} p t h = rw (p.edges, some?-append t a.edges p.more, h)

pub grows_length : {a b : Trace} → Grows a b → length a.edges ≤ length b.edges
grows_length {a} {b} p = rw (p.edges, length-append a.edges p.more) (omega arith)

-- more edges than k at any place are more than k at the end
pub grows_over : {a b : Trace} → Grows a b → (k : ℕ) → k < length a.edges → k < length b.edges
grows_over p k h = let l = grows_length p in omega arith

pub grows_unentered : {a b : Trace} → Grows a b → unentered b.seen ≤ unentered a.seen
grows_unentered {a} {b} p = rw p.seen (unentered-append p.entered a.seen)

-- the steps

pub add_grows : (T : Table) (v w : Node) (i : Item) → Adds (add_to T v w i)
unfolding add_to
add_grows T v w i st =
    let r = add-more T.productions (record { source = v; target = w; label = i }) st.edges in
    record { more = r.0; edges = r.1; entered = []; seen = refl }

pub enter_grows : (s n : ℕ) → Adds (enter s n)
unfolding enter
enter_grows s n st = record { more = []; edges = sym (append-nil st.edges); entered = pair s n ∷ []; seen = refl }

-- a first entry takes one from the pairs that are left
pub enter-unentered : (s n : ℕ) (st : Trace) → s < 128 → n < 32 → mem (pair s n) st.seen ≡ false → suc (unentered (enter s n st).seen) ≡ unentered st.seen
unfolding enter
enter-unentered s n st hs hn m = unentered-cons (pair s n) st.seen (pair_lt s n hs hn) m

module _ {ℓ} {A : Type ℓ} where
  pub turn_nil : (f : A → Trace → Trace) (st : Trace) → in_turn f [] st ≡ st
  unfolding in_turn
  turn_nil f st = refl

  pub turn_cons : (f : A → Trace → Trace) (x : A) (xs : List A) (st : Trace) → in_turn f (x ∷ xs) st ≡ in_turn f xs (f x st)
  unfolding in_turn
  turn_cons f x xs st = refl

  pub turn_append : (f : A → Trace → Trace) (xs ys : List A) (st : Trace) → in_turn f (xs ++ ys) st ≡ in_turn f ys (in_turn f xs st)
  turn_append f [] ys st = ap (in_turn f ys) (sym (turn_nil f st))
  turn_append f (x ∷ xs) ys st = turn_cons f x (xs ++ ys) st ∙ turn_append f xs ys (f x st) ∙ ap (in_turn f ys) (sym (turn_cons f x xs st))

  pub turn_grows : (f : A → Trace → Trace) → ((x : A) → Adds (f x)) → (xs : List A) → Adds (in_turn f xs)
  turn_grows f h [] st = rw (turn_nil f st) (grows_refl st)
  turn_grows f h (x ∷ xs) st = rw (turn_cons f x xs st) (grows_trans (h x st) (turn_grows f h xs (f x st)))

  -- the same of a turn, after any part of it
  pub turn_over : (f : A → Trace → Trace) → ((x : A) → Adds (f x)) → (xs ys : List A) (st : Trace) (k : ℕ)
      → k < length (in_turn f xs st).edges → k < length (in_turn f (xs ++ ys) st).edges
  turn_over f h xs ys st k l = rw (turn_append f xs ys st) (grows_over (turn_grows f h ys (in_turn f xs st)) k l)

module _ (T : Table) where
  -- `backtrace_shift`

  pub epsilon_cannot : (n : ℕ) (go : ℕ → Trace → Trace) (i : Item) (st : Trace) → can_shift T n i ≡ false → epsilon_item T n go i st ≡ st
  unfolding epsilon_item
  epsilon_cannot n go i st e = rw (e, epsilon_item)

  pub epsilon_past : (n : ℕ) (go : ℕ → Trace → Trace) (i : Item) (st : Trace) → can_shift T n i ≡ true → ltb 0 i.index ≡ true
      → epsilon_item T n go i st ≡ add_to T (at_item i) (at_nonterminal n) i st
  unfolding epsilon_item
  epsilon_past n go i st e d = rw (e, epsilon_item) (rw d)

  pub epsilon_beginning : (n : ℕ) (go : ℕ → Trace → Trace) (i : Item) (st : Trace) → can_shift T n i ≡ true → ltb 0 i.index ≡ false
      → epsilon_item T n go i st ≡ go (owner_of T i) (add_to T (at_nonterminal (owner_of T i)) (at_nonterminal n) i st)
  unfolding epsilon_item
  epsilon_beginning n go i st e d = rw (e, epsilon_item) (rw d)

  pub epsilon-zero : (s n : ℕ) (st : Trace) → epsilon T 0 s n st ≡ st
  unfolding epsilon
  epsilon-zero s n st = refl

  -- a pair that was entered is left alone
  pub epsilon-entered : (f s n : ℕ) (st : Trace) → mem (pair s n) st.seen ≡ true → epsilon T f s n st ≡ st
  unfolding epsilon
  epsilon-entered zero s n st e = refl
  epsilon-entered (suc f) s n st e = rw (e, epsilon)

  pub epsilon_new : (f s n : ℕ) (st : Trace) → mem (pair s n) st.seen ≡ false
      → epsilon T (suc f) s n st ≡ in_turn (epsilon_item T n (λ m u. epsilon T f s m u)) (state_at T s).items (enter s n st)
  unfolding epsilon
  epsilon_new f s n st e = rw (e, epsilon)

  pub epsilon_item_grows : (n : ℕ) (go : ℕ → Trace → Trace) → ((m : ℕ) → Adds (go m)) → (i : Item) → Adds (epsilon_item T n go i)
  epsilon_item_grows n go h i st =
      cases (can_shift T n i)
      (λ e. cases (ltb 0 i.index)
      (λ d. rw (epsilon_past n go i st e d) (add_grows T (at_item i) (at_nonterminal n) i st))
      (λ d. rw (epsilon_beginning n go i st e d) (grows_trans (add_grows T (at_nonterminal (owner_of T i)) (at_nonterminal n) i st) (h (owner_of T i) (add_to T (at_nonterminal (owner_of T i)) (at_nonterminal n) i st)))))
      (λ e. rw (epsilon_cannot n go i st e) (grows_refl st))

  pub epsilon_grows : (f s n : ℕ) → Adds (epsilon T f s n)
  epsilon_grows zero s n st = rw (epsilon-zero s n st) (grows_refl st)
  epsilon_grows (suc f) s n st =
      let ih = epsilon_grows f s in
      cases (mem (pair s n) st.seen)
      (λ e. rw (epsilon-entered (suc f) s n st e) (grows_refl st))
      (λ e. rw (epsilon_new f s n st e) (grows_trans (enter_grows s n st)
      (turn_grows (epsilon_item T n (λ m u. epsilon T f s m u)) (epsilon_item_grows n (λ m u. epsilon T f s m u) ih) (state_at T s).items (enter s n st))))

  -- `backtrace_reduce`

  pub reduce_cannot : (n : ℕ) (go : Item → Trace → Trace) (i : Item) (st : Trace) → can_shift T n i ≡ false → reduce_state_item T n go i st ≡ st
  unfolding reduce_state_item
  reduce_cannot n go i st e = rw (e, reduce_state_item)

  pub reduce_nullable : (n : ℕ) (go : Item → Trace → Trace) (i : Item) (st : Trace) → can_shift T n i ≡ true → nullable T (suffix_of T i) ≡ true
      → reduce_state_item T n go i st ≡ go i (add_to T (at_nonterminal (owner_of T i)) (at_nonterminal n) i st)
  unfolding reduce_state_item
  reduce_nullable n go i st e d = rw (e, reduce_state_item) (rw d)

  pub reduce_ends : (n : ℕ) (go : Item → Trace → Trace) (i : Item) (st : Trace) → can_shift T n i ≡ true → nullable T (suffix_of T i) ≡ false
      → reduce_state_item T n go i st ≡ add_to T (at_item i) (at_nonterminal n) i st
  unfolding reduce_state_item
  reduce_ends n go i st e d = rw (e, reduce_state_item) (rw d)

  pub reduce_item_is : (go : ℕ → ℕ → Trace → Trace) (s : ℕ) (i : Item) (st : Trace)
      → item_of_reduce T go s i st ≡ in_turn (λ p u. go p (owner_of T i) u) (traced_back T s (prefix_of T i)) (add_to T (at_nonterminal (owner_of T i)) (at_item i) i st)
  unfolding item_of_reduce
  reduce_item_is go s i st = refl

  pub reduce_zero : (s n : ℕ) (st : Trace) → state_of_reduce T 0 s n st ≡ st
  unfolding state_of_reduce
  reduce_zero s n st = refl

  pub reduce_entered : (f s n : ℕ) (st : Trace) → mem (pair s n) st.seen ≡ true → state_of_reduce T f s n st ≡ st
  unfolding state_of_reduce
  reduce_entered zero s n st e = refl
  reduce_entered (suc f) s n st e = rw (e, state_of_reduce)

  pub reduce_new : (f s n : ℕ) (st : Trace) → mem (pair s n) st.seen ≡ false
      → state_of_reduce T (suc f) s n st
      ≡ in_turn (reduce_state_item T n (λ i u. item_of_reduce T (λ p m v. state_of_reduce T f p m v) s i u)) (state_at T s).items (enter s n st)
  unfolding state_of_reduce
  reduce_new f s n st e = rw (e, state_of_reduce)

  pub reduce_item_grows : (go : ℕ → ℕ → Trace → Trace) → ((p m : ℕ) → Adds (go p m)) → (s : ℕ) (i : Item) → Adds (item_of_reduce T go s i)
  reduce_item_grows go h s i st =
      let u = add_to T (at_nonterminal (owner_of T i)) (at_item i) i st in
      rw (reduce_item_is go s i st) (grows_trans (add_grows T (at_nonterminal (owner_of T i)) (at_item i) i st)
      (turn_grows (λ p v. go p (owner_of T i) v) (λ p. h p (owner_of T i)) (traced_back T s (prefix_of T i)) u))

  pub reduce_state_item_grows : (n : ℕ) (go : Item → Trace → Trace) → ((i : Item) → Adds (go i)) → (i : Item) → Adds (reduce_state_item T n go i)
  reduce_state_item_grows n go h i st =
      cases (can_shift T n i)
      (λ e. cases (nullable T (suffix_of T i))
      (λ d. rw (reduce_nullable n go i st e d) (grows_trans (add_grows T (at_nonterminal (owner_of T i)) (at_nonterminal n) i st) (h i (add_to T (at_nonterminal (owner_of T i)) (at_nonterminal n) i st))))
      (λ d. rw (reduce_ends n go i st e d) (add_grows T (at_item i) (at_nonterminal n) i st)))
      (λ e. rw (reduce_cannot n go i st e) (grows_refl st))

  pub reduce_grows : (f s n : ℕ) → Adds (state_of_reduce T f s n)
  reduce_grows zero s n st = rw (reduce_zero s n st) (grows_refl st)
  reduce_grows (suc f) s n st =
      let ih = reduce_grows f in
      cases (mem (pair s n) st.seen)
      (λ e. rw (reduce_entered (suc f) s n st e) (grows_refl st))
      (λ e. rw (reduce_new f s n st e) (grows_trans (enter_grows s n st)
      (turn_grows
      (reduce_state_item T n (λ i u. item_of_reduce T (λ p m v. state_of_reduce T f p m v) s i u))
      (reduce_state_item_grows n (λ i u. item_of_reduce T (λ p m v. state_of_reduce T f p m v) s i u) (reduce_item_grows (λ p m v. state_of_reduce T f p m v) ih s))
      (state_at T s).items
      (enter s n st))))
