-- The fuel of tracing never cuts: of two numbers above the pairs that are left each gives the same trace, so `pairs` of specs/Traced gives what any larger number would, and each trace
-- is its own turn with no fuel to count (`epsilon-turn`, `reduce-turn`).
use Rattle.std.proofs.Common.{◌≡◌, ℕ, zero, suc, ◌<◌, ◌≤◌, true, ltb, List, [], ◌∷◌, length, sym, refl, ap, ◌∙◌, arith}
use mathlib.Core.List.{Memᴰ}
use native.Mathlib.Decide.{dec_lt}
use lib.ListN.{get_or-eq_default}
use Rattle.lr1_base.specs.repr.Lists.{mem}
use Rattle.lr1_base.specs.repr.Meaning.{Symbol, Item, no_production, Table, state_at, production_at, TableFits, ProductionFits}
use Rattle.lr1_base.proofs.repr.Lists.{cases, mem-cons_here, mem-cons_there}
use Rattle.lr1_base.proofs.repr.Tests.{All_at}
use Rattle.first.specs.First.{nullable}
use Rattle.state_graph.specs.Walk.{walked_back, traced_back}
use Rattle.state_graph.proofs.Exact.{walk_inside, mem_one, predecessors-inside}
use Rattle.trace_graph.specs.Graph.{at_nonterminal, at_item}
use Rattle.trace.specs.Traced.{Trace, pair, enter, add_to, owner_of, can_shift, prefix_of, suffix_of, in_turn, pairs}
use Rattle.trace.specs.Seen.{unentered}
use Rattle.trace.specs.Shift.{epsilon_item, epsilon}
use Rattle.trace.specs.Reduce.{reduce_state_item, item_of_reduce, state_of_reduce}
use Rattle.trace.proofs.Seen.{unentered_le}
use Rattle.trace.proofs.Grows.{Adds, grows_unentered, add_grows, enter-unentered, turn_nil, turn_cons, epsilon_cannot, epsilon_past, epsilon_beginning, epsilon-entered, epsilon_new, epsilon_item_grows, epsilon_grows, reduce_cannot, reduce_nullable, reduce_ends, reduce_item_is, reduce_entered, reduce_new, reduce_item_grows, reduce_state_item_grows, reduce_grows}

-- a listed number is a member
pub listed-mem : (k : ℕ) (xs : List ℕ) → Memᴰ k xs → mem k xs ≡ true
listed-mem k (x ∷ xs) (Memᴰ.head q) = ap (λ (j : ℕ). mem j (x ∷ xs)) q ∙ mem-cons_here x xs
listed-mem k (x ∷ xs) (Memᴰ.tail m) = mem-cons_there k x xs (listed-mem k xs m)
listed-mem k [] x' = elim x' [ ]

-- two turns whose steps agree where fewer than k pairs are left
pub turn_agree {ℓ} : {A : Type ℓ} (k : ℕ) (f g : A → Trace → Trace) → ((x : A) → Adds (f x)) → (xs : List A)
    → ((x : A) → Memᴰ x xs → (st : Trace) → unentered st.seen < k → f x st ≡ g x st)
    → (st : Trace) → unentered st.seen < k → in_turn f xs st ≡ in_turn g xs st
turn_agree k f g a [] h st l = turn_nil f st ∙ sym (turn_nil g st)
turn_agree k f g a (x ∷ xs) h st l =
    let q = grows_unentered (a x st) in
    turn_cons f x xs st
    ∙ turn_agree k f g a xs (λ y m. h y (Memᴰ.tail m)) (f x st) (omega arith)
    ∙ ap (in_turn g xs) (h x (Memᴰ.head refl) st l)
    ∙ sym (turn_cons g x xs st)

module _ (T : Table) (fits : TableFits T) where
  -- numbers in range
  pub owner_lt : (i : Item) → owner_of T i < length T.nonterminals
  unfolding owner_of
  owner_lt i = go (dec_lt i.production (length T.productions))
    where
      go : Dec (i.production < length T.productions) → (production_at T i.production).nonterminal < length T.nonterminals
      go (yes h) = (All_at (ProductionFits T) T.productions i.production no_production fits.productions h).owner
      go (no h) = rw (get_or-eq_default T.productions no_production {n = i.production} (omega arith)) fits.some-nonterminal

  pub owner_small : (i : Item) → owner_of T i < 32
  owner_small i = let a = owner_lt i in let b = fits.few_nonterminals in omega arith

  pub back_inside : (s : ℕ) → s < length T.states → (xs : List Symbol) (p : ℕ) → mem p (traced_back T s xs) ≡ true → p < length T.states
  unfolding traced_back
  back_inside s h xs p m = walk_inside T (s ∷ []) (λ k e. let q = mem_one k s e in omega arith) xs p m

  pub back_small : (s : ℕ) → s < 128 → (xs : List Symbol) (p : ℕ) → mem p (traced_back T s xs) ≡ true → p < 128
  unfolding traced_back walked_back
  back_small s h [] p m = let q = mem_one p s m in omega arith
  back_small s h (x ∷ xs) p m =
      let a = predecessors-inside T x (walked_back T (s ∷ []) xs) p m in
      let b = fits.few_states in
      omega arith

  -- `backtrace_shift`

  epsilon_item_agree : (k n : ℕ) (f g : ℕ → Trace → Trace)
      → ((m : ℕ) (st : Trace) → m < 32 → unentered st.seen < k → f m st ≡ g m st)
      → (i : Item) (st : Trace) → unentered st.seen < k → epsilon_item T n f i st ≡ epsilon_item T n g i st
  epsilon_item_agree k n f g a i st l =
      let to = add_to T (at_nonterminal (owner_of T i)) (at_nonterminal n) i st in
      let q = grows_unentered (add_grows T (at_nonterminal (owner_of T i)) (at_nonterminal n) i st) in
      cases (can_shift T n i)
      (λ e. cases (ltb 0 i.index)
      (λ d. epsilon_past T n f i st e d ∙ sym (epsilon_past T n g i st e d))
      (λ d. epsilon_beginning T n f i st e d ∙ a (owner_of T i) to (owner_small i) (omega arith) ∙ sym (epsilon_beginning T n g i st e d)))
      (λ e. epsilon_cannot T n f i st e ∙ sym (epsilon_cannot T n g i st e))

  epsilon_agree : (s : ℕ) → s < 128 → (f g k : ℕ) → k ≤ f → k ≤ g → (n : ℕ) (st : Trace) → n < 32 → unentered st.seen < k
      → epsilon T f s n st ≡ epsilon T g s n st
  epsilon_agree s r zero g k kf kg n st l h = absurd (omega arith)
  epsilon_agree s r (suc f) zero k kf kg n st l h = absurd (omega arith)
  epsilon_agree s r (suc f) (suc g) k kf kg n st l h =
      let ih = epsilon_agree s r f g (unentered st.seen) (omega arith) (omega arith) in
      cases (mem (pair s n) st.seen)
      (λ e. epsilon-entered T (suc f) s n st e ∙ sym (epsilon-entered T (suc g) s n st e))
      (λ e.
      let d = enter-unentered s n st r l e in
      epsilon_new T f s n st e
      ∙ turn_agree (unentered st.seen) (epsilon_item T n (λ m u. epsilon T f s m u)) (epsilon_item T n (λ m u. epsilon T g s m u))
      (epsilon_item_grows T n (λ m u. epsilon T f s m u) (epsilon_grows T f s)) (state_at T s).items
      (λ i _. epsilon_item_agree (unentered st.seen) n (λ m u. epsilon T f s m u) (λ m u. epsilon T g s m u) ih i)
      (enter s n st) (omega arith)
      ∙ sym (epsilon_new T g s n st e))

  pub epsilon-enough : (f g s n : ℕ) (st : Trace) → s < 128 → n < 32 → unentered st.seen < f → unentered st.seen < g
      → epsilon T f s n st ≡ epsilon T g s n st
  epsilon-enough f g s n st r l hf hg = epsilon_agree s r f g (suc (unentered st.seen)) hf hg n st l (omega arith)

  -- with no fuel to count
  pub epsilon-pairs : (f s n : ℕ) (st : Trace) → s < 128 → n < 32 → unentered st.seen < f → epsilon T f s n st ≡ epsilon T pairs s n st
  epsilon-pairs f s n st r l h = let q = unentered_le st.seen in epsilon-enough f pairs s n st r l h (omega arith)

  -- `backtrace_reduce`

  reduce_item_agree : (k : ℕ) (f g : ℕ → ℕ → Trace → Trace) → ((p m : ℕ) → Adds (f p m))
      → ((p m : ℕ) (st : Trace) → p < 128 → m < 32 → unentered st.seen < k → f p m st ≡ g p m st)
      → (s : ℕ) → s < 128 → (i : Item) (st : Trace) → unentered st.seen < k → item_of_reduce T f s i st ≡ item_of_reduce T g s i st
  reduce_item_agree k f g b a s r i st l =
      let o = owner_of T i in
      let to = add_to T (at_nonterminal (owner_of T i)) (at_item i) i st in
      let q = grows_unentered (add_grows T (at_nonterminal (owner_of T i)) (at_item i) i st) in
      reduce_item_is T f s i st
      ∙ turn_agree k (λ p u. f p o u) (λ p u. g p o u) (λ p. b p o) (traced_back T s (prefix_of T i))
      (λ p m u lu. a p o u (back_small s r (prefix_of T i) p (listed-mem p (traced_back T s (prefix_of T i)) m)) (owner_small i) lu)
      to (omega arith)
      ∙ sym (reduce_item_is T g s i st)

  reduce_state_item_agree : (k n : ℕ) (f g : Item → Trace → Trace)
      → ((i : Item) (st : Trace) → unentered st.seen < k → f i st ≡ g i st)
      → (i : Item) (st : Trace) → unentered st.seen < k → reduce_state_item T n f i st ≡ reduce_state_item T n g i st
  reduce_state_item_agree k n f g a i st l =
      let to = add_to T (at_nonterminal (owner_of T i)) (at_nonterminal n) i st in
      let q = grows_unentered (add_grows T (at_nonterminal (owner_of T i)) (at_nonterminal n) i st) in
      cases (can_shift T n i)
      (λ e. cases (nullable T (suffix_of T i))
      (λ d. reduce_nullable T n f i st e d ∙ a i to (omega arith) ∙ sym (reduce_nullable T n g i st e d))
      (λ d. reduce_ends T n f i st e d ∙ sym (reduce_ends T n g i st e d)))
      (λ e. reduce_cannot T n f i st e ∙ sym (reduce_cannot T n g i st e))

  -- the turn of a state, by two steps that agree
  state_agree : (k : ℕ) (f g : ℕ → ℕ → Trace → Trace) → ((p m : ℕ) → Adds (f p m))
      → ((p m : ℕ) (st : Trace) → p < 128 → m < 32 → unentered st.seen < k → f p m st ≡ g p m st)
      → (s n : ℕ) → s < 128 → (st : Trace) → unentered st.seen < k
      → in_turn (reduce_state_item T n (λ i u. item_of_reduce T (λ p m v. f p m v) s i u)) (state_at T s).items st
      ≡ in_turn (reduce_state_item T n (λ i u. item_of_reduce T (λ p m v. g p m v) s i u)) (state_at T s).items st
  state_agree k f g b a s n r st l =
      turn_agree k (reduce_state_item T n (λ i u. item_of_reduce T (λ p m v. f p m v) s i u)) (reduce_state_item T n (λ i u. item_of_reduce T (λ p m v. g p m v) s i u))
      (reduce_state_item_grows T n (λ i u. item_of_reduce T (λ p m v. f p m v) s i u) (reduce_item_grows T (λ p m v. f p m v) b s)) (state_at T s).items
      (λ i _. reduce_state_item_agree k n (λ i u. item_of_reduce T (λ p m v. f p m v) s i u) (λ i u. item_of_reduce T (λ p m v. g p m v) s i u)
      (reduce_item_agree k (λ p m v. f p m v) (λ p m v. g p m v) b a s r) i)
      st l

  reduce_agree : (f g k : ℕ) → k ≤ f → k ≤ g → (s n : ℕ) (st : Trace) → s < 128 → n < 32 → unentered st.seen < k
      → state_of_reduce T f s n st ≡ state_of_reduce T g s n st
  reduce_agree zero g k kf kg s n st r l h = absurd (omega arith)
  reduce_agree (suc f) zero k kf kg s n st r l h = absurd (omega arith)
  reduce_agree (suc f) (suc g) k kf kg s n st r l h =
      let ih = reduce_agree f g (unentered st.seen) (omega arith) (omega arith) in
      cases (mem (pair s n) st.seen)
      (λ e. reduce_entered T (suc f) s n st e ∙ sym (reduce_entered T (suc g) s n st e))
      (λ e.
      let d = enter-unentered s n st r l e in
      reduce_new T f s n st e
      ∙ state_agree (unentered st.seen) (λ p m v. state_of_reduce T f p m v) (λ p m v. state_of_reduce T g p m v) (reduce_grows T f) ih s n r (enter s n st) (omega arith)
      ∙ sym (reduce_new T g s n st e))

  pub reduce_enough : (f g s n : ℕ) (st : Trace) → s < 128 → n < 32 → unentered st.seen < f → unentered st.seen < g
      → state_of_reduce T f s n st ≡ state_of_reduce T g s n st
  reduce_enough f g s n st r l hf hg = reduce_agree f g (suc (unentered st.seen)) hf hg s n st r l (omega arith)

  pub reduce_pairs : (f s n : ℕ) (st : Trace) → s < 128 → n < 32 → unentered st.seen < f → state_of_reduce T f s n st ≡ state_of_reduce T pairs s n st
  reduce_pairs f s n st r l h = let q = unentered_le st.seen in reduce_enough f pairs s n st r l h (omega arith)
