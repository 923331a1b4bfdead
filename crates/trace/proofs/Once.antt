-- Laws of adding an edge to a trace graph (specs/Graph of trace_graph): sameness of edges is an equivalence, an edge that is there is not added again, what is there stays, and no edge
-- comes to stand twice (`once` of its specs/Fits).
use Rattle.std.proofs.Common.{◌≡◌, Bool, true, false, not, ◌&&◌, ◌||◌, List, [], ◌∷◌, ◌++◌, sym, refl, ap, ◌∙◌, true≢false, append-nil, eq-eqb}
use mathlib.Core.Bool.{or-false, or-true}
use Rattle.lr1_base.specs.repr.Lists.{some?}
use Rattle.lr1_base.specs.repr.Meaning.{Item, Production, All}
use Rattle.lr1_base.proofs.repr.Lists.{cases, clash}
use Rattle.lr1_base.proofs.repr.Tests.{some?-nil, some?-yes, some?_no, some?-cons, some?-append}
use Rattle.trace_graph.specs.Graph.{same_item, is_same_node, TraceEdge, label_of, same_sets, is_same_edge, add}
use Rattle.trace_graph.specs.Fits.{once}
use Rattle.trace_graph.proofs.Labels.{node_equal, node_refl, sets_equal, sets_refl}
use Rattle.lr1_base.proofs.laws.Bools.{agree, and-true}

-- items, nodes and labels that are the same are equal

pub item_same : (a : Item) → same_item a a ≡ true
unfolding same_item
item_same a = rw (eq-eqb a.production a.production refl, eq-eqb a.index a.index refl)

module _ (ps : List Production) where
  -- two edges are the same exactly if their ends are equal and their labels' symbols are

  pub edge_equal : (e f : TraceEdge) → is_same_edge ps e f ≡ true → (e.source ≡ f.source) × (e.target ≡ f.target) × (label_of ps e.label ≡ label_of ps f.label)
  unfolding is_same_edge
  edge_equal e f h =
      let r = and-true (is_same_node e.source f.source) (is_same_node e.target f.target && same_sets (label_of ps e.label) (label_of ps f.label)) h in
      let t = and-true (is_same_node e.target f.target) (same_sets (label_of ps e.label) (label_of ps f.label)) r.1 in
      (node_equal e.source f.source r.0, node_equal e.target f.target t.0, sets_equal (label_of ps e.label) (label_of ps f.label) t.1)

  pub equal_edge : (e f : TraceEdge) → e.source ≡ f.source → e.target ≡ f.target → label_of ps e.label ≡ label_of ps f.label → is_same_edge ps e f ≡ true
  unfolding is_same_edge
  equal_edge e f p q r = rw (p, q, r) (rw (node_refl f.source, node_refl f.target) (sets_refl (label_of ps f.label)))

  pub edge_same : (e : TraceEdge) → is_same_edge ps e e ≡ true
  edge_same e = equal_edge e e refl refl refl

  pub edge_flip : (e f : TraceEdge) → is_same_edge ps e f ≡ is_same_edge ps f e
  edge_flip e f = agree (is_same_edge ps e f) (is_same_edge ps f e) (turned e f) (turned f e)
    where
      turned : (a b : TraceEdge) → is_same_edge ps a b ≡ true → is_same_edge ps b a ≡ true
      turned a b h = let r = edge_equal a b h in equal_edge b a (sym r.0) (sym r.1) (sym r.2)

  pub edge_trans : (e f g : TraceEdge) → is_same_edge ps e f ≡ true → is_same_edge ps f g ≡ true → is_same_edge ps e g ≡ true
  edge_trans e f g h k =
      let r = edge_equal e f h in
      let t = edge_equal f g k in
      equal_edge e g (r.0 ∙ t.0) (r.1 ∙ t.1) (r.2 ∙ t.2)

  -- adding

  pub add_there : (e : TraceEdge) (es : List TraceEdge) → some? (is_same_edge ps e) es ≡ true → add ps e es ≡ es
  unfolding add
  add_there e es h = rw (h, add)

  pub add_new : (e : TraceEdge) (es : List TraceEdge) → some? (is_same_edge ps e) es ≡ false → add ps e es ≡ es ++ e ∷ []
  unfolding add
  add_new e es h = rw (h, add)

  -- nothing or the edge is put behind
  pub add-more : (e : TraceEdge) (es : List TraceEdge) → (more : List TraceEdge) × (add ps e es ≡ es ++ more)
  add-more e es =
      cases (some? (is_same_edge ps e) es)
      (λ h. ([], add_there e es h ∙ sym (append-nil es)))
      (λ h. (e ∷ [], add_new e es h))

  one_more : (t : TraceEdge → Bool) (e : TraceEdge) (es : List TraceEdge) → some? t (es ++ e ∷ []) ≡ (some? t es || t e)
  one_more t e es = some?-append t es (e ∷ []) ∙ ap (λ (b : Bool). some? t es || b) (some?-cons t e [] ∙ rw (some?-nil t) (or-false (t e)))

  -- what is there after: the edge, and what was there
  pub add-has : (e : TraceEdge) (es : List TraceEdge) → some? (is_same_edge ps e) (add ps e es) ≡ true
  add-has e es =
      cases (some? (is_same_edge ps e) es)
      (λ h. ap (some? (is_same_edge ps e)) (add_there e es h) ∙ h)
      (λ h. ap (some? (is_same_edge ps e)) (add_new e es h) ∙ one_more (is_same_edge ps e) e es ∙ rw (h, edge_same e))

  like : (e f : TraceEdge) (es : List TraceEdge) → is_same_edge ps f e ≡ true → some? (is_same_edge ps e) es ≡ true → some? (is_same_edge ps f) es ≡ true
  like e f [] q h = clash (some? (is_same_edge ps e) []) h (some?-nil (is_same_edge ps e))
  like e f (x ∷ es) q h =
      let rest = like e f es q in
      cases (is_same_edge ps e x)
      (λ k. some?-yes (is_same_edge ps f) x es (edge_trans f e x q k))
      (λ k. some?-cons (is_same_edge ps f) x es ∙ rw (rest (sym (some?_no (is_same_edge ps e) x es k) ∙ h)) (or-true (is_same_edge ps f x)))

  pub add-all : (P : TraceEdge → Type 0) (e : TraceEdge) (es : List TraceEdge) → P e → All P es → All P (add ps e es)
  unfolding All
  add-all P e es p h =
      cases (some? (is_same_edge ps e) es)
      (λ k. rw (add_there e es k) h)
      (λ k. rw (add_new e es k) (behind es h))
    where
      behind : (xs : List TraceEdge) → All P xs → All P (xs ++ e ∷ [])
      behind [] q = (p, tt)
      behind (x ∷ xs) q = (q.0, behind xs q.1)

  -- no edge twice

  pub once-nil : once ps [] ≡ true
  unfolding once
  once-nil = refl

  once-behind : (e : TraceEdge) (es : List TraceEdge) → some? (is_same_edge ps e) es ≡ false → once ps es ≡ true → once ps (es ++ e ∷ []) ≡ true
  unfolding once
  once-behind e [] h k = rw (some?-nil (is_same_edge ps e))
  once-behind e (x ∷ xs) h k =
      let r = and-true (not (some? (is_same_edge ps x) xs)) (once ps xs) k in
      let a = borrow.Author.Tests.not-true (some? (is_same_edge ps x) xs) r.0 in
      cases (is_same_edge ps e x)
      (λ b. clash (some? (is_same_edge ps e) (x ∷ xs)) (some?-yes (is_same_edge ps e) x xs b) h)
      (λ b.
      let rest = once-behind e xs (sym (some?_no (is_same_edge ps e) x xs b) ∙ h) r.1 in
      rw (one_more (is_same_edge ps x) e xs, a, edge_flip x e, b) rest)

  pub add_once : (e : TraceEdge) (es : List TraceEdge) → once ps es ≡ true → once ps (add ps e es) ≡ true
  add_once e es k =
      cases (some? (is_same_edge ps e) es)
      (λ h. rw (add_there e es h) k)
      (λ h. rw (add_new e es h) (once-behind e es h k))
