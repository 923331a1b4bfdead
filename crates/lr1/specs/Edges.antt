-- What `add_edge` answers and leaves (docs/RULES.md, "The trace graph"): answer and graph words.
use Rattle.std.specs.Prelude.{ℕ, true, false, List, length, leb}
use Rattle.lr1_base.specs.repr.Reply.{Reply, answered, refused}
use Rattle.lr1_base.specs.repr.Sizes.{edge_limit, graph_room}
use Rattle.lr1_base.specs.words.Lent.{in_front}
use Rattle.lr1_base.specs.repr.Meaning.{Table}
use Rattle.table.specs.Refusals.{check_of}
use Rattle.trace_graph.specs.declared.TraceEdge.{TraceEdge as EdgeValue}
use Rattle.trace_graph.specs.Graph.{TraceEdge, add}
use Rattle.trace_graph.specs.Words.{graph_words, edges_in}
use Rattle.trace_graph.specs.Fits.{graph_fits}
use Rattle.trace_graph.specs.Values.{edge_is, value_fits}
use Rattle.lr1.specs.Entries.{over_table}

pub data EdgeOutcome : Type 0 where
  edge_outcome : Reply ℕ → List ℕ → EdgeOutcome

-- accepted: count and edges at the front of the graph, no other word changed; refusal 12: one edge too many, the graph as it was
unfoldable pub added_outcome : List ℕ → List TraceEdge → EdgeOutcome
added_outcome graph es = elim (leb (length es) edge_limit) [
  | true ↦ edge_outcome (answered (length es)) (in_front (graph_words es) graph)
  | false ↦ edge_outcome (refused 12 0) graph
]

-- refusal 9 of the edge's numbers; 11; 9 of the graph's contents, which are looked at only in a graph that is long enough. Nothing is changed
unfoldable pub added_edge_in : EdgeValue → List ℕ → Table → EdgeOutcome
added_edge_in v graph T = elim (value_fits (length T.nonterminals) T.productions v) [
  | false ↦ edge_outcome (refused 9 0) graph
  | true ↦ elim (leb graph_room (length graph)) [
    | false ↦ edge_outcome (refused 11 0) graph
    | true ↦ elim (graph_fits (length T.nonterminals) T.productions graph) [
      | false ↦ edge_outcome (refused 9 0) graph
      | true ↦ added_outcome graph (add T.productions (edge_is v) (edges_in graph))
    ]
  ]
]

unfoldable pub add_edge_of : List ℕ → EdgeValue → List ℕ → EdgeOutcome
add_edge_of t v graph = over_table (λ n r. edge_outcome (refused n r) graph) (added_edge_in v graph) t (check_of t)
