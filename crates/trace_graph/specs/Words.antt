-- A trace graph in words: a count, then eight an edge as added (source, target: 0, nonterminal, 0 or 1, production, index; label: an item's production, index).
use Rattle.std.specs.Prelude.{ℕ, zero, suc, ◌+◌, List, [], ◌∷◌, ◌++◌, map, length, slice_index}
use Rattle.lr1_base.specs.repr.Sizes.{edge_place}
use Rattle.lr1_base.specs.repr.Lists.{below, joined}
use Rattle.trace_graph.specs.Graph.{Node, at_nonterminal, at_item, TraceEdge}

unfoldable pub node_words : Node → List ℕ
node_words (at_nonterminal n) = 0 ∷ n ∷ 0 ∷ []
node_words (at_item i) = 1 ∷ i.production ∷ i.index ∷ []

unfoldable pub edge_words : TraceEdge → List ℕ
edge_words e = node_words e.source ++ (node_words e.target ++ (e.label.production ∷ e.label.index ∷ []))

unfoldable pub graph_words : List TraceEdge → List ℕ
graph_words es = length es ∷ joined edge_words es

unfoldable pub node_of : ℕ → ℕ → ℕ → Node
node_of zero a b = at_nonterminal a
node_of (suc k) a b = at_item (record { production = a; index = b })

unfoldable pub node_at : List ℕ → ℕ → Node
node_at ws at = node_of (slice_index ws at) (slice_index ws (at + 1)) (slice_index ws (at + 2))

unfoldable pub edge_at : List ℕ → ℕ → TraceEdge
edge_at ws k = record {
  source = node_at ws (edge_place k);
  target = node_at ws (edge_place k + 3);
  label = record { production = slice_index ws (edge_place k + 6); index = slice_index ws (edge_place k + 7) };
}

unfoldable pub edges_in : List ℕ → List TraceEdge
edges_in ws = map (edge_at ws) (below (slice_index ws 0))
