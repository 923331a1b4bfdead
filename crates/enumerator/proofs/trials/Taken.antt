-- A graph of which only a beginning is lent: with 8,193 words or more it is the same graph and fits as the whole does.
use Rattle.std.proofs.Common.{◌≡◌, ℕ, ◌+◌, ◌<◌, ◌≤◌, true, false, ◌&&◌, leb, List, map, length, get_or, take, sym, ◌∙◌, arith, length-take, get_or-take, ext_get_or, le-leb, leb-true}
use mathlib.Core.Option.{Option}
use Rattle.lr1_base.specs.repr.Sizes.{edge_limit, edge_place, graph_room}
use Rattle.lr1_base.specs.repr.Lists.{below, every?}
use Rattle.lr1_base.specs.repr.Meaning.{Production, Item, Table}
use Rattle.lr1_base.proofs.repr.Lists.{cases, length-map-below, get_d_map-below}
use Rattle.lr1_base.proofs.repr.Tests.{every?_below_intro}
use Rattle.trace_graph.specs.Graph.{TraceEdge, no_edge}
use Rattle.trace_graph.specs.Words.{node_at, edge_at, edges_in}
use Rattle.trace_graph.specs.Fits.{item_is_fit, edge_is_fit, once, graph_fits}
use Rattle.enumerator.specs.trials.Advance.{ahead_fits, lent_graph_fits, asked}
use Rattle.lr1_base.proofs.laws.Bools.{both, and_left, and_right}
use Rattle.enumerator.proofs.trials.Edges.{few_edges, edge_fits, no_edge-twice}

agree_below : (f h : ℕ → TraceEdge) (c : ℕ) → ((k : ℕ) → k < c → f k ≡ h k) → map f (below c) ≡ map h (below c)
agree_below f h c e =
    ext_get_or no_edge (map f (below c)) (map h (below c)) (length-map-below f c ∙ sym (length-map-below h c))
    (λ k l. let b : k < c = omega (arith, length-map-below f c) in get_d_map-below f c k no_edge b ∙ e k b ∙ sym (get_d_map-below h c k no_edge b))

module _ (n : ℕ) (g : List ℕ) (many : graph_room ≤ n) where
  count_taken : get_or (take n g) 0 0 ≡ get_or g 0 0
  count_taken = get_or-take n g 0 0 (omega arith)

  node_taken : (at : ℕ) → at + 2 < n → node_at (take n g) at ≡ node_at g at
  unfolding node_at
  node_taken at h = rw (get_or-take n g at 0 (omega arith), get_or-take n g (at + 1) 0 (omega arith), get_or-take n g (at + 2) 0 (omega arith))

  -- an edge's words end before word 8,193
  inside : (k : ℕ) → k < edge_limit → edge_place k + 7 < n
  inside k h = omega arith

  edge_taken : (k : ℕ) → k < edge_limit → edge_at (take n g) k ≡ edge_at g k
  unfolding edge_at
  edge_taken k h =
      let l = inside k h in
      rw (node_taken (edge_place k) (omega arith), node_taken (edge_place k + 3) (omega arith), get_or-take n g (edge_place k + 6) 0 (omega arith), get_or-take n g (edge_place k + 7) 0 (omega arith))

  edge_fits_taken : (m : ℕ) (ps : List Production) (k : ℕ) → k < edge_limit → edge_is_fit m ps (take n g) k ≡ edge_is_fit m ps g k
  unfolding edge_is_fit
  edge_fits_taken m ps k h =
      let l = inside k h in
      rw (
        get_or-take n g (edge_place k) 0 (omega arith),
        get_or-take n g (edge_place k + 1) 0 (omega arith),
        get_or-take n g (edge_place k + 2) 0 (omega arith),
        get_or-take n g (edge_place k + 3) 0 (omega arith),
        get_or-take n g (edge_place k + 4) 0 (omega arith),
        get_or-take n g (edge_place k + 5) 0 (omega arith),
        get_or-take n g (edge_place k + 6) 0 (omega arith),
        get_or-take n g (edge_place k + 7) 0 (omega arith),
      )

  -- the same edges
  pub edges_taken : get_or g 0 0 ≤ edge_limit → edges_in (take n g) ≡ edges_in g
  unfolding edges_in
  edges_taken h = rw count_taken (agree_below (edge_at (take n g)) (edge_at g) (get_or g 0 0) (λ k l. edge_taken k (omega arith)))

  pub graph_taken : (m : ℕ) (ps : List Production) → graph_fits m ps g ≡ true → graph_fits m ps (take n g) ≡ true
  unfolding graph_fits
  graph_taken m ps fits =
      let few = few_edges m ps g fits in
      rw (edges_taken few, count_taken)
      (both (leb (get_or g 0 0) edge_limit) _ (le-leb (get_or g 0 0) edge_limit few)
      (both (every? (edge_is_fit m ps (take n g)) (below (get_or g 0 0))) (once ps (edges_in g))
      (every?_below_intro (edge_is_fit m ps (take n g)) (get_or g 0 0) (λ k l. edge_fits_taken m ps k (omega arith) ∙ edge_fits m ps g fits k l))
      (no_edge-twice m ps g fits)))

pub fits_long : (T : Table) (g : List ℕ) → leb graph_room (length g) ≡ true → lent_graph_fits T g ≡ graph_fits (length T.nonterminals) T.productions g
unfolding lent_graph_fits
fits_long T g e = rw (e, lent_graph_fits)

fits_short : (T : Table) (g : List ℕ) → leb graph_room (length g) ≡ false → lent_graph_fits T g ≡ true
unfolding lent_graph_fits
fits_short T g e = rw (e, lent_graph_fits)

-- of a graph that is asked for
pub asked_graph : (T : Table) (i : Item) (ahead : Option ℕ) (g : List ℕ) → graph_room ≤ length g → asked T i ahead g ≡ true → graph_fits (length T.nonterminals) T.productions g ≡ true
unfolding asked
asked_graph T i ahead g long a =
    let t = item_is_fit T.productions i.production i.index in
    let b = and_right t (ahead_fits T ahead && lent_graph_fits T g) a in
    sym (fits_long T g (le-leb graph_room (length g) long)) ∙ and_right (ahead_fits T ahead) (lent_graph_fits T g) b

-- what is asked of the whole graph is met by any beginning of it
pub asked_taken : (T : Table) (i : Item) (ahead : Option ℕ) (n : ℕ) (g : List ℕ) → graph_room ≤ length g → asked T i ahead g ≡ true → asked T i ahead (take n g) ≡ true
unfolding asked
asked_taken T i ahead n g long a =
    let t = item_is_fit T.productions i.production i.index in
    let b = and_right t (ahead_fits T ahead && lent_graph_fits T g) a in
    let f = asked_graph T i ahead g long a in
    both t (ahead_fits T ahead && lent_graph_fits T (take n g)) (and_left t (ahead_fits T ahead && lent_graph_fits T g) a)
    (both (ahead_fits T ahead) (lent_graph_fits T (take n g)) (and_left (ahead_fits T ahead) (lent_graph_fits T g) b)
    (cases (leb graph_room (length (take n g)))
    (λ e.
    let h = leb-true graph_room (length (take n g)) e in
    let k = length-take n g in
    fits_long T (take n g) e ∙ graph_taken n g (omega arith) (length T.nonterminals) T.productions f)
    (λ e. fits_short T (take n g) e)))
