-- `add_edge` in words: a graph with its index, and what an edge that is added changes.
use Rattle.std.specs.Prelude.{◌≡◌, ℕ, ◌+◌, ◌<◌, ◌≤◌, Bool, true, false, not, List, length, slice_index, slice_index_or, slice_set}
use Rattle.lr1_base.specs.repr.Sizes.{edge_limit, graph_room}
use Rattle.lr1_base.specs.repr.Lists.{some?}
use Rattle.lr1_base.specs.repr.Meaning.{Production}
use Rattle.trace_graph.specs.Graph.{TraceEdge, is_same_edge, add}
use Rattle.trace_graph.specs.Words.{edge_words, edge_at, edges_in}
use Rattle.trace_graph.specs.Fits.{edge_is_fit}
use Rattle.trace_graph.specs.Index.{Indexed}
use Rattle.trace_graph.specs.Values.{written, first_edges}

-- the first k edges of ws, each in range, and their index
pub record Graphed (n : ℕ) (ps : List Production) (ws ix : List ℕ) (k : ℕ) : Type 0 where
  pub nonterminals : n ≤ 32
  pub long : graph_room ≤ length ws
  pub few : k ≤ edge_limit
  pub fits : (j : ℕ) → j < k → edge_is_fit n ps ws j ≡ true
  pub index : Indexed ps ws ix k

-- a graph whose count is k, with an edge more
unfoldable pub with_one_more : List ℕ → ℕ → TraceEdge → List ℕ
with_one_more ws k e = slice_set (written ws k (edge_words e)) 0 (k + 1)

-- the words after an edge is added: as they were, or the count and the eight words at its place changed
unfoldable pub add_words : List Production → TraceEdge → List ℕ → List ℕ
add_words ps e ws = elim (some? (is_same_edge ps e) (edges_in ws)) [ true ↦ ws | false ↦ with_one_more ws (slice_index ws 0) e ]

-- the edge is in the graph
pub record Added (n : ℕ) (ps : List Production) (e : TraceEdge) (ws ws' ix' : List ℕ) : Type 0 where
  pub edges : edges_in ws' ≡ add ps e (edges_in ws)
  pub words : ws' ≡ add_words ps e ws
  pub good : Graphed n ps ws' ix' (slice_index ws' 0)

-- refusal 12: one edge too many, and nothing is changed
pub record Overfull (ps : List Production) (e : TraceEdge) (ws ix ws' ix' : List ℕ) : Type 0 where
  pub words : ws' ≡ ws
  pub links : ix' ≡ ix
  pub absent : some? (is_same_edge ps e) (edges_in ws) ≡ false
  pub many : slice_index_or ws 0 0 ≡ edge_limit

-- edge k equals none before it
unfoldable pub fresh : List Production → List ℕ → ℕ → Bool
fresh ps ws k = not (some? (is_same_edge ps (edge_at ws k)) (first_edges ws k))
