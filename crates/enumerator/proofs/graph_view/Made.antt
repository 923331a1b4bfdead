-- A view made edge by edge (src/making.rt).
use Prim.Native.Nat.{ℕ, zero, suc, ◌+◌, ◌≤◌, ◌<◌}
use native.Mathlib.Omega.{arith}
use mathlib.Core.Path.{◌≡◌, refl, sym, ap, subst, ◌∙◌}
use mathlib.Core.Bool.{Bool, true, false}
use mathlib.Core.List.{List}
use lib.ListN.{length, get_or, set, replicate, length-set, length-replicate, get_or-replicate}
use lib.Seq.{get_or-set_same, get_or-set_other}
use lib.Dec.{eqb}
use borrow.Author.Tests.{eqb-true, eqb-false, eq-eqb, ne_eqb}
use Rattle.lr1_base.specs.repr.Sizes.{nonterminal_limit, edge_limit, graph_room}
use Rattle.lr1_base.specs.repr.Meaning.{Item, Production}
use Rattle.lr1_base.proofs.repr.Lists.{cases}
use Rattle.trace_graph.specs.declared.Node.{Node as NodeValue}
use Rattle.trace_graph.specs.declared.TraceEdge.{TraceEdge as EdgeValue}
use Rattle.trace_graph.specs.Graph.{Node, at_nonterminal, at_item, same_item, is_same_node, TraceEdge}
use Rattle.trace_graph.specs.Words.{edge_at, edges_in}
use Rattle.trace_graph.specs.Values.{node_is, edge_is, edge_read, node_value_fits, value_fits}
use Rattle.trace_graph.specs.Fits.{graph_fits}
use Rattle.trace_graph.specs.Insert.{Graphed}
use Rattle.trace_graph.proofs.Fits.{value_range, source_fits, target_fits}
use Rattle.trace_graph.proofs.Words.{edge_read_lem, fits_read}
use Rattle.enumerator.specs.trials.Trials.{Ends}
use Rattle.enumerator.specs.trials.Machine.{below, link_of}
use Rattle.enumerator.specs.trials.Stacks.{Ranged}
use Rattle.enumerator.proofs.trials.Edges.{edges_at_lem, few_edges, edge_fits}
use Rattle.enumerator.proofs.trials.Steps.{below-hit, below_miss}
use Rattle.enumerator.proofs.trials.Stepping.{ends, value_nonterminal}
use Rattle.enumerator.proofs.trials.Holding.{small_ground, nonterminal_range}
use Rattle.enumerator.specs.graph_view.View.{view_nodes, latest_room, view_node, slot_of, source_of, Bounded, Viewed, View, EdgeRanged}
use Rattle.enumerator.proofs.graph_view.Owner.{kind_item}
use Rattle.trace_graph.proofs.Labels.{node_refl}
use Rattle.trace_graph.proofs.Front.{edges_long}

-- the nodes of a view

pub start_node : (start : Item) → view_node start nonterminal_limit ≡ at_item start
unfolding view_node
start_node start = refl

pub nonterminal_node : (start : Item) (n : ℕ) → n < nonterminal_limit → view_node start n ≡ at_nonterminal n
unfolding view_node
nonterminal_node start n h = rw (ne_eqb n nonterminal_limit (λ e. omega arith), view_node)

slot-item : (start i : Item) (b : Bool) → same_item i start ≡ b → slot_of start (at_item i) ≡ elim b [ true ↦ nonterminal_limit | false ↦ view_nodes ]
unfolding slot_of
slot-item start i b e = rw (e, slot_of)

-- a node is that of its number, and of no other
module _ (start : Item) (s : ℕ) (hs : s < view_nodes) where
  abbrev Same : Node → Type 0
  Same v = is_same_node v (view_node start s) ≡ eqb (slot_of start v) s

  module _ (q : s ≡ nonterminal_limit) where
    start_is : view_node start s ≡ at_item start
    start_is = ap (view_node start) q ∙ start_node start

    start-nonterminal : (n : ℕ) → n < nonterminal_limit → Same (at_nonterminal n)
    unfolding is_same_node slot_of
    start-nonterminal n h = ap (is_same_node (at_nonterminal n)) start_is ∙ sym (ne_eqb n s (λ e. omega arith))

    start-item : (i : Item) (b : Bool) → same_item i start ≡ b → Same (at_item i)
    unfolding is_same_node
    start-item i true e = ap (is_same_node (at_item i)) start_is ∙ e ∙ sym (ap (λ (k : ℕ). eqb k s) (slot-item start i true e) ∙ eq-eqb nonterminal_limit s (sym q))
    start-item i false e = ap (is_same_node (at_item i)) start_is ∙ e ∙ sym (ap (λ (k : ℕ). eqb k s) (slot-item start i false e) ∙ ne_eqb view_nodes s (λ x. omega arith))

  module _ (ne : s ≡ nonterminal_limit → ⊥) where
    nonterminal_is : view_node start s ≡ at_nonterminal s
    nonterminal_is = nonterminal_node start s (omega arith)

    both-nonterminals : (n : ℕ) → Same (at_nonterminal n)
    unfolding is_same_node slot_of
    both-nonterminals n = ap (is_same_node (at_nonterminal n)) nonterminal_is

    other_item : (i : Item) (b : Bool) → same_item i start ≡ b → Same (at_item i)
    unfolding is_same_node
    other_item i true e = ap (is_same_node (at_item i)) nonterminal_is ∙ sym (ap (λ (k : ℕ). eqb k s) (slot-item start i true e) ∙ ne_eqb nonterminal_limit s (λ x. ne (sym x)))
    other_item i false e = ap (is_same_node (at_item i)) nonterminal_is ∙ sym (ap (λ (k : ℕ). eqb k s) (slot-item start i false e) ∙ ne_eqb view_nodes s (λ x. omega arith))

  same_slot : (v : Node) → ((n : ℕ) → v ≡ at_nonterminal n → n < nonterminal_limit) → Same v
  same_slot (at_nonterminal n) low =
      cases (eqb s nonterminal_limit) (λ q. start-nonterminal (eqb-true s nonterminal_limit q) n (low n refl)) (λ q. both-nonterminals (eqb-false s nonterminal_limit q) n)
  same_slot (at_item i) low =
      cases (eqb s nonterminal_limit)
      (λ q. start-item (eqb-true s nonterminal_limit q) i (same_item i start) refl)
      (λ q. other_item (eqb-false s nonterminal_limit q) i (same_item i start) refl)

-- words within their limits

bounded_zeros : (size limit : ℕ) → Bounded size limit (replicate size 0)
bounded_zeros size limit = record {
  long = length-replicate {A = ℕ} size 0;
  low = λ k. let z = zero_at size k in omega arith;
}
  where
    zero_at : (n k : ℕ) → ◌≡◌ {A = ℕ} (get_or (replicate n 0) k 0) 0
    zero_at zero k = refl
    zero_at (suc n) zero = refl
    zero_at (suc n) (suc k) = zero_at n k

bounded_set : {size limit : ℕ} {ws : List ℕ} → Bounded size limit ws → (i v : ℕ) → i < size → v ≤ limit → Bounded size limit (set ws i v)
bounded_set {size} {limit} {ws} B i v h l = record {
  long = length-set ws i v ∙ B.long;
  low = λ k. cases (eqb k i)
      (λ q. let e = ap (λ (j : ℕ). get_or (set ws i v) j 0) (eqb-true k i q) ∙ get_or-set_same ws i v 0 (omega (arith, B.long)) in omega arith)
      (λ q. let e = get_or-set_other ws i k v 0 (eqb-false k i q) in omega (arith, B.low k));
}

-- no edge yet
viewed_none : (G : Ends) (start : Item) → Viewed G start (replicate edge_limit 0) (replicate edge_limit 0) (replicate latest_room 0) 0
unfolding below link_of
viewed_none G start = record {
  tidy = record { by_source = bounded_zeros edge_limit nonterminal_limit; by_older = bounded_zeros edge_limit edge_limit; by_latest = bounded_zeros latest_room edge_limit };
  sourced = λ e h. absurd (omega arith);
  linked = λ e s h l q. absurd (omega arith);
  headed = λ s h. get_or-replicate latest_room s 0 0 (omega arith);
}

pub viewed_first : {G : Ends} {start : Item} {sources older latest : List ℕ} → sources ≡ replicate edge_limit 0 → older ≡ replicate edge_limit 0 → latest ≡ replicate latest_room 0
    → Viewed G start sources older latest 0
viewed_first {G} {start} s o l = rw (s, o, l) (viewed_none G start)

link_hit : (G : Ends) (v : Node) (k : ℕ) → is_same_node (G.target k) v ≡ true → link_of (below G v (suc k)) ≡ k + 1
unfolding link_of
link_hit G v k e = ap link_of (below-hit G v k e) ∙ (let o : suc k ≡ k + 1 = omega arith in o)

link_miss : (G : Ends) (v : Node) (k : ℕ) → is_same_node (G.target k) v ≡ false → link_of (below G v (suc k)) ≡ link_of (below G v k)
link_miss G v k e = ap link_of (below_miss G v k e)

-- one edge more
module _ {G : Ends} {start : Item} {sources older latest : List ℕ} {k : ℕ} (W : Viewed G start sources older latest k) (low : k < edge_limit)
    (small : (n : ℕ) → G.target k ≡ at_nonterminal n → n < nonterminal_limit)
    (a : ℕ) (ea : a ≡ source_of (G.source k)) (la : a ≤ nonterminal_limit) (b : ℕ) (eb : b ≡ slot_of start (G.target k)) (lb : b < latest_room) where
  same_at : (s : ℕ) → s < view_nodes → is_same_node (G.target k) (view_node start s) ≡ eqb b s
  same_at s h = same_slot start s h (G.target k) small ∙ ap (λ (x : ℕ). eqb x s) (sym eb)

  pub viewed_more : Viewed G start (set sources k a) (set older k (get_or latest b 0)) (set latest b (k + 1)) (k + 1)
  viewed_more = record {
    tidy = record {
      by_source = bounded_set W.tidy.by_source k a low la;
      by_older = bounded_set W.tidy.by_older k (get_or latest b 0) low (W.tidy.by_latest.low b);
      by_latest = bounded_set W.tidy.by_latest b (k + 1) lb (omega arith);
    };
    sourced = λ e h. cases (eqb e k)
        (λ q. let z = eqb-true e k q in
        ap (λ (j : ℕ). get_or (set sources k a) j 0) z ∙ get_or-set_same sources k a 0 (omega (arith, W.tidy.by_source.long)) ∙ ea ∙ ap (λ (j : ℕ). source_of (G.source j)) (sym z))
        (λ q. let ne = eqb-false e k q in get_or-set_other sources k e a 0 ne ∙ W.sourced e (less e h ne));
    linked = λ e s h l t. cases (eqb e k)
        (λ q. let z = eqb-true e k q in
        let y : G.target k ≡ view_node start s = ap G.target (sym z) ∙ t in
        let w : b ≡ s = eqb-true b s (sym (same_at s l) ∙ ap (λ (v : Node). is_same_node v (view_node start s)) y ∙ node_refl (view_node start s)) in
        ap (λ (j : ℕ). get_or (set older k (get_or latest b 0)) j 0) z ∙ get_or-set_same older k (get_or latest b 0) 0 (omega (arith, W.tidy.by_older.long))
        ∙ ap (λ (j : ℕ). get_or latest j 0) w ∙ W.headed s l ∙ ap (λ (j : ℕ). link_of (below G (view_node start s) j)) (sym z))
        (λ q. let ne = eqb-false e k q in get_or-set_other older k e (get_or latest b 0) 0 ne ∙ W.linked e s (less e h ne) l t);
    headed = λ s l. cases (eqb b s)
        (λ q. let z = eqb-true b s q in
        ap (λ (j : ℕ). get_or (set latest b (k + 1)) j 0) (sym z) ∙ get_or-set_same latest b (k + 1) 0 (omega (arith, W.tidy.by_latest.long))
        ∙ sym (link_hit G (view_node start s) k (same_at s l ∙ q)) ∙ ap (λ (j : ℕ). link_of (below G (view_node start s) j)) one)
        (λ q. let ne = eqb-false b s q in
        get_or-set_other latest b s (k + 1) 0 (λ e. ne (sym e)) ∙ W.headed s l ∙ sym (link_miss G (view_node start s) k (same_at s l ∙ q)) ∙ ap (λ (j : ℕ). link_of (below G (view_node start s) j)) one);
  }
    where
      one : suc k ≡ k + 1
      one = omega arith

      less : (e : ℕ) → e < k + 1 → (e ≡ k → ⊥) → e < k
      less e h ne = omega arith

-- the numbers of a node that is read

module _ (v : NodeValue) (production index : ℕ) where
  abbrev item : Item
  item = record { production = production; index = index }

  pub slot-nonterminal : v.kind ≡ 0 → v.number ≡ slot_of item (node_is v)
  unfolding slot_of
  slot-nonterminal z = sym (ap (slot_of item) (value_nonterminal v z))

  pub slot-start : (v.kind ≡ 0 → ⊥) → v.number ≡ production → v.index ≡ index → nonterminal_limit ≡ slot_of item (node_is v)
  unfolding same_item
  slot-start ne p i =
      sym (ap (slot_of item) (kind_item v ne) ∙ slot-item item (record { production = v.number; index = v.index }) true (rw (eq-eqb v.number production p, eq-eqb v.index index i)))

  pub slot-other : (v.kind ≡ 0 → ⊥) → (v.number ≡ production → ⊥) → view_nodes ≡ slot_of item (node_is v)
  unfolding same_item
  slot-other ne p =
      sym (ap (slot_of item) (kind_item v ne) ∙ slot-item item (record { production = v.number; index = v.index }) false (rw (ne_eqb v.number production p)))

  pub slot-place : (v.kind ≡ 0 → ⊥) → v.number ≡ production → (v.index ≡ index → ⊥) → view_nodes ≡ slot_of item (node_is v)
  unfolding same_item
  slot-place ne p i =
      sym (ap (slot_of item) (kind_item v ne) ∙ slot-item item (record { production = v.number; index = v.index }) false (rw (eq-eqb v.number production p, ne_eqb v.index index i)))

pub source-nonterminal : (v : NodeValue) → v.kind ≡ 0 → v.number + 1 ≡ source_of (node_is v)
unfolding source_of
source-nonterminal v z = (let o : v.number + 1 ≡ suc v.number = omega arith in o) ∙ sym (ap source_of (value_nonterminal v z))

pub source-item : (v : NodeValue) → (v.kind ≡ 0 → ⊥) → 0 ≡ source_of (node_is v)
unfolding source_of
source-item v ne = sym (ap source_of (kind_item v ne))

-- small numbers of a node with a small nonterminal
source-room : (x : Node) → ((m : ℕ) → x ≡ at_nonterminal m → m < nonterminal_limit) → source_of x ≤ nonterminal_limit
unfolding source_of
source-room (at_nonterminal m) h = h m refl
source-room (at_item i) h = omega arith

slot-room : (start : Item) (x : Node) → ((m : ℕ) → x ≡ at_nonterminal m → m < nonterminal_limit) → slot_of start x < latest_room
unfolding slot_of
slot-room start (at_nonterminal m) h = omega (arith, h m refl)
slot-room start (at_item i) h =
    cases (same_item i start)
    (λ e. let q : slot_of start (at_item i) ≡ nonterminal_limit = slot-item start i true e in omega arith)
    (λ e. let q : slot_of start (at_item i) ≡ view_nodes = slot-item start i false e in omega arith)

-- an edge in range
module _ {ps : List Production} {g : List ℕ} {k : ℕ} (E : EdgeRanged ps g k) where
  abbrev n : ℕ
  n = E.nonterminals

  node_low : (v : NodeValue) → node_value_fits n ps v ≡ true → (x : Node) (m : ℕ) → node_is v ≡ x → x ≡ at_nonterminal m → m < nonterminal_limit
  node_low v f x m e q = omega (arith, nonterminal_range n ps m (rw (e ∙ q) at (value_range n ps v f)), E.few)

  module _ {v : EdgeValue} (ev : v ≡ edge_read g k) where
    value_in : value_fits n ps v ≡ true
    value_in = ap (value_fits n ps) ev ∙ fits_read n ps g k ∙ E.fits

    source_is : node_is v.source ≡ (edge_at g k).source
    unfolding edge_is
    source_is = ap (λ (e : TraceEdge). e.source) (ap edge_is ev ∙ edge_read_lem g k)

    target_is : node_is v.target ≡ (edge_at g k).target
    unfolding edge_is
    target_is = ap (λ (e : TraceEdge). e.target) (ap edge_is ev ∙ edge_read_lem g k)

    source_low : (m : ℕ) → (edge_at g k).source ≡ at_nonterminal m → m < nonterminal_limit
    source_low m = node_low v.source (source_fits n ps v value_in) (edge_at g k).source m source_is

    target_low : (m : ℕ) → (edge_at g k).target ≡ at_nonterminal m → m < nonterminal_limit
    target_low m = node_low v.target (target_fits n ps v value_in) (edge_at g k).target m target_is

    pub source_small : v.source.kind ≡ 0 → v.source.number < nonterminal_limit
    source_small z = source_low v.source.number (sym source_is ∙ value_nonterminal v.source z)

    pub target_small : v.target.kind ≡ 0 → v.target.number < nonterminal_limit
    target_small z = target_low v.target.number (sym target_is ∙ value_nonterminal v.target z)

    -- the numbers that are put into the view
    pub source-put : {a : ℕ} → a ≡ source_of (node_is v.source) → a ≡ source_of (edge_at g k).source
    source-put e = e ∙ ap source_of source_is

    pub slot-put : (start : Item) {b : ℕ} → b ≡ slot_of start (node_is v.target) → b ≡ slot_of start (edge_at g k).target
    slot-put start e = e ∙ ap (slot_of start) target_is

  pub making_more : {start : Item} {sources older latest sources' older' latest' : List ℕ} → k < get_or g 0 0 → get_or g 0 0 ≤ edge_limit → Viewed (ends g) start sources older latest k
      → sources' ≡ set sources k (source_of (edge_at g k).source) → older' ≡ set older k (get_or latest (slot_of start (edge_at g k).target) 0)
      → latest' ≡ set latest (slot_of start (edge_at g k).target) (k + 1) → Viewed (ends g) start sources' older' latest' (k + 1)
  making_more {start} h l W es eo el =
      let e : (ends g).source k ≡ (edge_at g k).source = ap (λ (f : TraceEdge). f.source) (edges_at_lem g k h) in
      let t : (ends g).target k ≡ (edge_at g k).target = ap (λ (f : TraceEdge). f.target) (edges_at_lem g k h) in
      rw (es, eo, el)
      (viewed_more W (omega arith) (λ m q. target_low refl m (sym t ∙ q)) (source_of (edge_at g k).source) (ap source_of (sym e)) (source-room (edge_at g k).source (source_low refl))
      (slot_of start (edge_at g k).target) (ap (slot_of start) (sym t)) (slot-room start (edge_at g k).target (target_low refl)))

pub view_made : {ps : List Production} {g : List ℕ} → Ranged ps g → {start : Item} {sources older latest : List ℕ} {k : ℕ} → k ≡ get_or g 0 0 → Viewed (ends g) start sources older latest k → View (edges_in g) start sources older latest
view_made {ps} {g} R {start} {sources} {older} {latest} ek W = record {
  few = omega (arith, edges_long g, R.few_edges);
  small = small_ground (record { productions = ps; ranged = R });
  viewed = subst (λ (j : ℕ). Viewed (ends g) start sources older latest j) (ek ∙ sym (edges_long g)) W;
}

-- a graph with its index, and one whose check passes, are in range
pub ranged_of : {n : ℕ} {ps : List Production} {g ix : List ℕ} → Graphed n ps g ix (get_or g 0 0) → Ranged ps g
ranged_of {n} B = record { nonterminals = n; few_nonterminals = B.nonterminals; long = B.long; few_edges = B.few; fits = B.fits }

pub ranged_fits : (n : ℕ) (ps : List Production) (g : List ℕ) → graph_fits n ps g ≡ true → n ≤ nonterminal_limit → graph_room ≤ length g → Ranged ps g
ranged_fits n ps g f h l = record { nonterminals = n; few_nonterminals = h; long = l; few_edges = few_edges n ps g f; fits = edge_fits n ps g f }
