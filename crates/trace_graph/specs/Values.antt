-- What the values of the code's structs `Node` and `TraceEdge` are, when they are in range, and the words that an edge is read from and written to. The one accessor for an edge's words.
use Rattle.std.specs.Prelude.{ℕ, ◌+◌, ◌<◌, ◌≤◌, Bool, ◌&&◌, List, [], ◌∷◌, map, ◌==◌, slice_index}
use Rattle.std.proofs.lemmas.List.Edits.{sets}
use Rattle.lr1_base.specs.repr.Sizes.{edge_place}
use Rattle.lr1_base.specs.repr.Lists.{below}
use Rattle.lr1_base.specs.repr.Meaning.{Production}
use Rattle.trace_graph.specs.declared.Node.{Node as NodeValue}
use Rattle.trace_graph.specs.declared.TraceEdge.{TraceEdge as EdgeValue}
use Rattle.trace_graph.specs.Graph.{Node, TraceEdge}
use Rattle.trace_graph.specs.Words.{node_of, edge_at}
use Rattle.trace_graph.specs.Fits.{item_is_fit, node_fits}

unfoldable pub node_is : NodeValue → Node
node_is v = node_of v.kind v.number v.index

unfoldable pub edge_is : EdgeValue → TraceEdge
edge_is v = record { source = node_is v.source; target = node_is v.target; label = record { production = v.label.production; index = v.label.index } }

-- the same words
unfoldable pub same_value : NodeValue → NodeValue → Bool
same_value a b = a.kind == b.kind && (a.number == b.number && a.index == b.index)

-- in range, of n nonterminals
unfoldable pub node_value_fits : ℕ → List Production → NodeValue → Bool
node_value_fits n ps v = node_fits n ps v.kind v.number v.index

unfoldable pub value_fits : ℕ → List Production → EdgeValue → Bool
value_fits n ps v = node_value_fits n ps v.source && (node_value_fits n ps v.target && item_is_fit ps v.label.production v.label.index)

-- what range gives of a table at most as large as the limits
pub record SmallNode (v : NodeValue) : Type 0 where
  pub kind : v.kind < 2
  pub number : v.number < 128
  pub index : v.index ≤ 16

pub record SmallEdge (v : EdgeValue) : Type 0 where
  pub source : SmallNode v.source
  pub target : SmallNode v.target
  pub production : v.label.production < 128
  pub index : v.label.index ≤ 16

-- the three words from a place on, and edge k's eight
unfoldable pub node_read : List ℕ → ℕ → NodeValue
node_read ws at = record { kind = slice_index ws at; number = slice_index ws (at + 1); index = slice_index ws (at + 2) }

unfoldable pub edge_read : List ℕ → ℕ → EdgeValue
edge_read ws k = record {
  source = node_read ws (edge_place k);
  target = node_read ws (edge_place k + 3);
  label = record { production = slice_index ws (edge_place k + 6); index = slice_index ws (edge_place k + 7) };
}

unfoldable pub value_words : EdgeValue → List ℕ
value_words v =
    v.source.kind ∷ v.source.number ∷ v.source.index ∷ v.target.kind ∷ v.target.number ∷ v.target.index ∷ v.label.production ∷ v.label.index ∷ []

-- edge k's words written
unfoldable pub written : List ℕ → ℕ → List ℕ → List ℕ
written ws k vs = sets ws (edge_place k) vs

-- the first k edges
unfoldable pub first_edges : List ℕ → ℕ → List TraceEdge
first_edges ws k = map (edge_at ws) (below k)
