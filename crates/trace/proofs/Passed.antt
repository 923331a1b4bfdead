-- A state whose items lead to nothing new (specs/Passed): its epsilon step adds no edge, and the edges of a shift trace are the same without it (`left_out`).
use Rattle.std.proofs.Common.{◌≡◌, ℕ, zero, suc, ◌<◌, Bool, true, false, eqb, ltb, List, [], ◌∷◌, length, sym, refl, ap, ◌∙◌, arith, ltb-false, ltb-true, ne_eqb}
use mathlib.Core.List.{Memᴰ}
use Rattle.lr1_base.specs.repr.Lists.{mem, some?}
use Rattle.lr1_base.specs.repr.Meaning.{Item, Table, state_at, TableFits, All}
use Rattle.lr1_base.proofs.repr.Lists.{cases, clash, mem-yes, mem_no}
use Rattle.lr1_base.proofs.repr.Tests.{All_member}
use Rattle.trace_graph.specs.Graph.{Node, at_nonterminal, at_item, TraceEdge, is_same_edge, add}
use Rattle.trace.specs.Traced.{Trace, pair, enter, add_to, owner_of, can_shift, in_turn, pairs}
use Rattle.trace.specs.Shift.{epsilon_item, epsilon}
use Rattle.trace.specs.Passed.{ItemPassed, Passed}
use Rattle.trace.proofs.Once.{add_there}
use Rattle.trace.proofs.Grows.{turn_nil, turn_cons, epsilon_cannot, epsilon_past, epsilon_beginning, epsilon-zero, epsilon-entered, epsilon_new}
use Rattle.trace.proofs.Fuel.{listed-mem, owner_lt}
use Rattle.trace.proofs.Steps.{edge_past, edge_beginning, state_step}
use Rattle.trace.proofs.Traced.{turn-keeps}

-- the same edges, and the same pairs of all states but s
record Alike (s : ℕ) (a b : Trace) : Type 0 where
  edges : a.edges ≡ b.edges
  seen : (t m : ℕ) → (t ≡ s → ⊥) → m < 32 → mem (pair t m) a.seen ≡ mem (pair t m) b.seen

mem_agree : (k x : ℕ) (xs ys : List ℕ) → mem k xs ≡ mem k ys → mem k (x ∷ xs) ≡ mem k (x ∷ ys)
mem_agree k x xs ys h =
    cases (eqb k x)
    (λ e. mem-yes k x xs e ∙ sym (mem-yes k x ys e))
    (λ e. mem_no k x xs e ∙ h ∙ sym (mem_no k x ys e))

pair-apart : (t m s n : ℕ) → (t ≡ s → ⊥) → m < 32 → n < 32 → pair t m ≡ pair s n → ⊥
unfolding pair
pair-apart t m s n ne hm hn e = ne (omega arith)

turn_alike : {A : Type 0} (s : ℕ) (f : A → Trace → Trace) (xs : List A) → ((x : A) → Memᴰ x xs → (a b : Trace) → Alike s a b → Alike s (f x a) (f x b))
    → (a b : Trace) → Alike s a b → Alike s (in_turn f xs a) (in_turn f xs b)
turn_alike s f [] h a b p = rw (turn_nil f a, turn_nil f b) p
turn_alike s f (x ∷ xs) h a b p =
    rw (turn_cons f x xs a, turn_cons f x xs b) (turn_alike s f xs (λ y m. h y (Memᴰ.tail m)) (f x a) (f x b) (h x (Memᴰ.head refl) a b p))

module _ (T : Table) (fits : TableFits T) (s : ℕ) where
  small : (n : ℕ) → n < length T.nonterminals → n < 32
  small n l = let f = fits.few_nonterminals in omega arith

  -- steps from another state keep traces alike

  add-alike : (v w : Node) (i : Item) (a b : Trace) → Alike s a b → Alike s (add_to T v w i a) (add_to T v w i b)
  unfolding add_to
  add-alike v w i a b p = record { edges = ap (add T.productions (record { source = v; target = w; label = i })) p.edges; seen = p.seen }

  enter-alike : (t n : ℕ) (a b : Trace) → Alike s a b → Alike s (enter t n a) (enter t n b)
  unfolding enter
  enter-alike t n a b p = record { edges = p.edges; seen = λ u m ne l. mem_agree (pair u m) (pair t n) a.seen b.seen (p.seen u m ne l) }

  item-alike : (n : ℕ) (go : ℕ → Trace → Trace) → ((m : ℕ) → m < length T.nonterminals → (a b : Trace) → Alike s a b → Alike s (go m a) (go m b))
      → (i : Item) (a b : Trace) → Alike s a b → Alike s (epsilon_item T n go i a) (epsilon_item T n go i b)
  item-alike n go h i a b p =
      cases (can_shift T n i)
      (λ e. cases (ltb 0 i.index)
      (λ d. rw (epsilon_past T n go i a e d, epsilon_past T n go i b e d) (add-alike (at_item i) (at_nonterminal n) i a b p))
      (λ d. rw (epsilon_beginning T n go i a e d, epsilon_beginning T n go i b e d)
      (h (owner_of T i) (owner_lt T fits i) _ _ (add-alike (at_nonterminal (owner_of T i)) (at_nonterminal n) i a b p))))
      (λ e. rw (epsilon_cannot T n go i a e, epsilon_cannot T n go i b e) p)

  epsilon-alike : (t : ℕ) → (t ≡ s → ⊥) → (f n : ℕ) → n < length T.nonterminals → (a b : Trace) → Alike s a b → Alike s (epsilon T f t n a) (epsilon T f t n b)
  epsilon-alike t ne zero n l a b p = rw (epsilon-zero T t n a, epsilon-zero T t n b) p
  epsilon-alike t ne (suc f) n l a b p =
      let ih = epsilon-alike t ne f in
      let q = p.seen t n ne (small n l) in
      cases (mem (pair t n) a.seen)
      (λ e. rw (epsilon-entered T (suc f) t n a e, epsilon-entered T (suc f) t n b (sym q ∙ e)) p)
      (λ e. rw (epsilon_new T f t n a e, epsilon_new T f t n b (sym q ∙ e))
      (turn_alike s (epsilon_item T n (λ m u. epsilon T f t m u)) (state_at T t).items (λ i _. item-alike n (λ m u. epsilon T f t m u) ih i) _ _ (enter-alike t n a b p)))

  -- the step from s itself leaves a trace as it was, but for the pairs of s

  module _ (D : ℕ → Bool) (u : Trace) where
    add-passed : (v w : Node) (i : Item) → some? (is_same_edge T.productions (record { source = v; target = w; label = i })) u.edges ≡ true
        → (a : Trace) → Alike s a u → Alike s (add_to T v w i a) u
    unfolding add_to
    add-passed v w i k a p =
        let e : TraceEdge = record { source = v; target = w; label = i } in
        record { edges = ap (add T.productions e) p.edges ∙ add_there T.productions e u.edges k; seen = p.seen }

    enter-passed : (n : ℕ) → n < 32 → (a : Trace) → Alike s a u → Alike s (enter s n a) u
    unfolding enter
    enter-passed n l a p = record {
      edges = p.edges;
      seen = λ t m ne k. mem_no (pair t m) (pair s n) a.seen (ne_eqb (pair t m) (pair s n) (pair-apart t m s n ne k l)) ∙ p.seen t m ne k;
    }

    item-passed : (n : ℕ) → n < length T.nonterminals → D n ≡ true → (go : ℕ → Trace → Trace)
        → ((m : ℕ) → m < length T.nonterminals → D m ≡ true → (a : Trace) → Alike s a u → Alike s (go m a) u)
        → (i : Item) → ItemPassed T D u.edges i → (a : Trace) → Alike s a u → Alike s (epsilon_item T n go i a) u
    item-passed n l d go h i q a p =
        cases (can_shift T n i)
        (λ e. cases (ltb 0 i.index)
        (λ b. rw (epsilon_past T n go i a e b)
        (add-passed (at_item i) (at_nonterminal n) i (rw (edge_past T i n (ltb-true 0 i.index b)) at (q.edge n l d e)) a p))
        (λ b. rw (epsilon_beginning T n go i a e b)
        (h (owner_of T i) (owner_lt T fits i) (q.owner n l d e b) _
        (add-passed (at_nonterminal (owner_of T i)) (at_nonterminal n) i (rw (edge_beginning T i n (ltb-false 0 i.index b)) at (q.edge n l d e)) a p))))
        (λ e. rw (epsilon_cannot T n go i a e) p)

    epsilon-passed : All (ItemPassed T D u.edges) (state_at T s).items → (f n : ℕ) → n < length T.nonterminals → D n ≡ true → (a : Trace) → Alike s a u → Alike s (epsilon T f s n a) u
    epsilon-passed all zero n l d a p = rw (epsilon-zero T s n a) p
    epsilon-passed all (suc f) n l d a p =
        let ih = epsilon-passed all f in
        cases (mem (pair s n) a.seen)
        (λ e. rw (epsilon-entered T (suc f) s n a e) p)
        (λ e. rw (epsilon_new T f s n a e)
        (turn-keeps (λ v. Alike s v u) (epsilon_item T n (λ m v. epsilon T f s m v)) (state_at T s).items
        (λ i m v. item-passed n l d (λ m v. epsilon T f s m v) ih i (All_member (ItemPassed T D u.edges) all m) v)
        (enter s n a) (enter-passed n (small n l) a p)))

  -- so further states add the same edges where s is left out
  pub left_out : (n : ℕ) → n < length T.nonterminals → (ss : List ℕ) → mem s ss ≡ false → (u : Trace) → Passed T n u.edges (state_at T s).items
      → (in_turn (state_step T n) ss u).edges ≡ (in_turn (state_step T n) ss (epsilon T pairs s n u)).edges
  left_out n l ss out u q =
      sym (turn_alike s (state_step T n) ss
      (λ t m. epsilon-alike t (λ (e : t ≡ s). clash (mem s ss) (ap (λ (k : ℕ). mem k ss) (sym e) ∙ listed-mem t ss m) out) pairs n l)
      (epsilon T pairs s n u) u
      (epsilon-passed q.from u q.items pairs n l q.has u (record { edges = refl; seen = λ t m ne k. refl }))).edges
