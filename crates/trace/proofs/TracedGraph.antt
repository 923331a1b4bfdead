-- Of every accepted trace, the lent buffer as `shift_of` and `reduce_of` leave it (`Traced` of specs/TracedGraph).
use Rattle.std.proofs.Common.{◌≡◌, ℕ, ◌≤◌, true, ◌&&◌, ltb, leb, List, length, drop, refl, ap, ◌∙◌, arith, length-append, length-drop, leb-true}
use Rattle.lr1_base.specs.repr.Reply.{answered, refused}
use Rattle.lr1_base.specs.repr.Sizes.{edge_limit, graph_room, scratch_words}
use Rattle.lr1_base.specs.words.Lent.{in_front, zeroed}
use Rattle.lr1_base.specs.repr.Meaning.{Item, Table, All}
use Rattle.lr1_base.proofs.repr.Lists.{cases}
use Rattle.table.specs.Checked.{Checked, Accepted, Refused as NotAccepted}
use Rattle.table.specs.Decoded.{meaning}
use Rattle.table.specs.Refusals.{check_of}
use Rattle.table.proofs.Decoding.{fits}
use Rattle.trace_graph.specs.Graph.{TraceEdge, at_item, is_node_of}
use Rattle.trace_graph.specs.Words.{graph_words, edges_in}
use Rattle.trace_graph.specs.Fits.{item_is_fit, graph_fits}
use Rattle.trace_graph.proofs.RoundTrip.{edges_back, graph_fits_lem}
use Rattle.trace.specs.Sound.{ShiftStep, ReduceStep, Sound}
use Rattle.trace.specs.Shift.{shift_edges}
use Rattle.trace.specs.Reduce.{reduce_edges}
use Rattle.trace.proofs.Traced.{fits-item, in_range, shift_sound, shift_steps, reduce_sound, reduce_steps}
use Rattle.trace.specs.Outcome.{Outcome, outcome, edges_outcome, traced_in, trace_by, shift_of, reduce_of}
use Rattle.trace.specs.TracedGraph.{Traced}
use Rattle.lr1_base.proofs.laws.Bools.{and-true}

edges_in_lem : (graph scratch : List ℕ) (es : List TraceEdge) (n : ℕ) (g w : List ℕ) → edges_outcome graph scratch es ≡ outcome (answered n) g w
    → (length es ≤ edge_limit) × (g ≡ in_front (graph_words es) graph)
unfolding edges_outcome
edges_in_lem graph scratch es n g w e =
    cases (leb (length es) edge_limit)
    (λ c.
    let z : ◌≡◌ {A = Outcome} (outcome (answered (length es)) (in_front (graph_words es) graph) (zeroed scratch_words scratch)) (outcome (answered n) g w) = rw (c, edges_outcome) at e in
    (leb-true (length es) edge_limit c, cc))
    (λ c.
    let z : ◌≡◌ {A = Outcome} (outcome (refused 12 0) graph (zeroed scratch_words scratch)) (outcome (answered n) g w) = rw (c, edges_outcome) at e in
    let y : ◌≡◌ {A = ℕ} 0 1 = cc in absurd (omega arith))

-- what an accepted trace was given and leaves
record Left (edges : Table → ℕ → Item → List TraceEdge) (T : Table) (s : ℕ) (i : Item) (graph g : List ℕ) : Type 0 where
  item : item_is_fit T.productions i.production i.index ≡ true
  long : graph_room ≤ length graph
  few : length (edges T s i) ≤ edge_limit
  words : g ≡ in_front (graph_words (edges T s i)) graph

trace_in : (edges : Table → ℕ → Item → List TraceEdge) (T : Table) (s : ℕ) (i : Item) (graph scratch : List ℕ) (n : ℕ) (g w : List ℕ)
    → traced_in edges s i graph scratch T ≡ outcome (answered n) g w → Left edges T s i graph g
unfolding traced_in
trace_in edges T s i graph scratch n g w e =
    cases (ltb s (length T.states) && item_is_fit T.productions i.production i.index)
    (λ a.
    cases (leb graph_room (length graph) && leb scratch_words (length scratch))
    (λ b.
    let z : edges_outcome graph scratch (edges T s i) ≡ outcome (answered n) g w = rw (a, b, traced_in) at e in
    let r = edges_in_lem graph scratch (edges T s i) n g w z in
    record {
      item = (and-true (ltb s (length T.states)) (item_is_fit T.productions i.production i.index) a).1;
      long = leb-true graph_room (length graph) (and-true (leb graph_room (length graph)) (leb scratch_words (length scratch)) b).0;
      few = r.0;
      words = r.1;
    })
    (λ b. let z : ◌≡◌ {A = Outcome} (outcome (refused 11 0) graph scratch) (outcome (answered n) g w) = rw (a, b, traced_in) at e in let y : ◌≡◌ {A = ℕ} 0 1 = cc in absurd (omega arith)))
    (λ a. let z : ◌≡◌ {A = Outcome} (outcome (refused 9 0) graph scratch) (outcome (answered n) g w) = rw (a, traced_in) at e in let y : ◌≡◌ {A = ℕ} 0 1 = cc in absurd (omega arith))

trace_of : (edges : Table → ℕ → Item → List TraceEdge) (t : List ℕ) (s : ℕ) (i : Item) (graph scratch : List ℕ) (n : ℕ) (g w : List ℕ)
    → trace_by edges t s i graph scratch (check_of t) ≡ outcome (answered n) g w → (check_of t ≡ Accepted) × Left edges (meaning t) s i graph g
unfolding trace_by
trace_of edges t s i graph scratch n g w e = by (check_of t) refl e
  where
    by : (k : Checked) → check_of t ≡ k → trace_by edges t s i graph scratch k ≡ outcome (answered n) g w → (check_of t ≡ Accepted) × Left edges (meaning t) s i graph g
    by Accepted a f = (a, trace_in edges (meaning t) s i graph scratch n g w f)
    by (NotAccepted m r) a f =
        let z : ◌≡◌ {A = Outcome} (outcome (refused m r) graph scratch) (outcome (answered n) g w) = f in let y : ◌≡◌ {A = ℕ} 0 1 = cc in absurd (omega arith)

module _ (edges : Table → ℕ → Item → List TraceEdge) (Step : Table → TraceEdge → Type 0) (t : List ℕ) (s : ℕ) (i : Item) (graph g : List ℕ) where
  -- the buffer holds the trace's edges
  edges_left : Left edges (meaning t) s i graph g → edges_in g ≡ edges (meaning t) s i
  unfolding in_front
  edges_left L =
      let es = edges (meaning t) s i in
      ap edges_in L.words ∙ edges_back es (drop (length (graph_words es)) graph)

  graph_passes : check_of t ≡ Accepted → Left edges (meaning t) s i graph g → Sound (meaning t) i (edges (meaning t) s i)
      → graph_fits (length (meaning t).nonterminals) (meaning t).productions g ≡ true
  unfolding in_front
  graph_passes A L S =
      let es = edges (meaning t) s i in
      ap (graph_fits (length (meaning t).nonterminals) (meaning t).productions) L.words
      ∙ graph_fits_lem (length (meaning t).nonterminals) (meaning t).productions es (drop (length (graph_words es)) graph) L.few (in_range (meaning t) (fits t A) es S.edges) S.once

  as_long : Left edges (meaning t) s i graph g → graph_room ≤ length g
  unfolding in_front
  as_long L =
      let ws = graph_words (edges (meaning t) s i) in
      omega (arith, ap length L.words, length-append ws (drop (length ws) graph), length-drop (length ws) graph, L.long)

  traced : check_of t ≡ Accepted → Left edges (meaning t) s i graph g → Sound (meaning t) i (edges (meaning t) s i) → All (Step (meaning t)) (edges (meaning t) s i) → Traced Step t i g
  traced A L S steps = record {
    accepted = A;
    item = L.item;
    long = as_long L;
    passes = graph_passes A L S;
    node = ap (is_node_of (at_item i)) (edges_left L) ∙ S.node;
    edges = rw (edges_left L) S.edges;
    rooted = rw (edges_left L) S.rooted;
    steps = rw (edges_left L) steps;
  }

module _ (t : List ℕ) (s : ℕ) (i : Item) (graph scratch : List ℕ) (n : ℕ) (g w : List ℕ) where
  -- a shift trace: from nonterminal to nonterminal by labels at their beginning
  pub shift_traced : shift_of t s i graph scratch ≡ outcome (answered n) g w → Traced ShiftStep t i g
  unfolding shift_of
  shift_traced e =
      let r = trace_of shift_edges t s i graph scratch n g w e in
      let F = fits t r.0 in
      let f = fits-item (meaning t) i r.1.item in
      traced shift_edges ShiftStep t s i graph g r.0 r.1 (shift_sound (meaning t) F s i f) (shift_steps (meaning t) F s i f)

  -- a reduce trace: by labels with a nullable suffix
  pub reduce_traced : reduce_of t s i graph scratch ≡ outcome (answered n) g w → Traced ReduceStep t i g
  unfolding reduce_of
  reduce_traced e =
      let r = trace_of reduce_edges t s i graph scratch n g w e in
      let F = fits t r.0 in
      let f = fits-item (meaning t) i r.1.item in
      traced reduce_edges ReduceStep t s i graph g r.0 r.1 (reduce_sound (meaning t) F s i f) (reduce_steps (meaning t) F s i f)
