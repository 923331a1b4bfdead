-- What is asked of a graph that a caller lends (refusal 9): a count of at most 1,024, every number in range, no edge twice. Words past the edges are not looked at.
use Rattle.std.specs.Prelude.{ℕ, zero, suc, ◌+◌, Bool, true, false, not, ◌&&◌, List, [], ◌∷◌, length, ◌==◌, nat_le, nat_lt, slice_index, slice_index_or}
use Rattle.lr1_base.specs.repr.Sizes.{edge_limit, edge_place}
use Rattle.lr1_base.specs.repr.Lists.{below, some?, every?}
use Rattle.lr1_base.specs.repr.Meaning.{Production, no_production}
use Rattle.trace_graph.specs.Graph.{TraceEdge, is_same_edge}
use Rattle.trace_graph.specs.Words.{edges_in}

-- a production in range and an index of at most its length
unfoldable pub item_is_fit : List Production → ℕ → ℕ → Bool
item_is_fit ps p i = nat_lt p (length ps) && nat_le i (length (slice_index_or ps p no_production).symbols)

-- n: the number of nonterminals
unfoldable pub node_fits : ℕ → List Production → ℕ → ℕ → ℕ → Bool
node_fits n ps zero m b = nat_lt m n && b == 0
node_fits n ps (suc zero) p i = item_is_fit ps p i
node_fits n ps (suc (suc k)) a b = false

unfoldable pub edge_is_fit : ℕ → List Production → List ℕ → ℕ → Bool
edge_is_fit n ps ws k =
    node_fits n ps (slice_index ws (edge_place k)) (slice_index ws (edge_place k + 1)) (slice_index ws (edge_place k + 2))
    && (node_fits n ps (slice_index ws (edge_place k + 3)) (slice_index ws (edge_place k + 4)) (slice_index ws (edge_place k + 5))
    && item_is_fit ps (slice_index ws (edge_place k + 6)) (slice_index ws (edge_place k + 7)))

-- no edge twice
unfoldable pub once : List Production → List TraceEdge → Bool
once ps [] = true
once ps (e ∷ es) = not (some? (is_same_edge ps e) es) && once ps es

unfoldable pub graph_fits : ℕ → List Production → List ℕ → Bool
graph_fits n ps ws = nat_le (slice_index ws 0) edge_limit && (every? (edge_is_fit n ps ws) (below (slice_index ws 0)) && once ps (edges_in ws))
