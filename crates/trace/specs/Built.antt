-- What the functions that build a graph are asked and give.
use Rattle.std.specs.Prelude.{◌≡◌, ℕ, ◌<◌, ◌≤◌, true, List, length, take, slice_index_or}
use Rattle.lr1_base.specs.repr.Sizes.{edge_limit, edge_place}
use Rattle.lr1_base.specs.repr.Meaning.{Item, Table}
use Rattle.lr1_base.specs.repr.Packed.{productions_in}
use Rattle.table.specs.Decoded.{meaning}
use Rattle.trace_graph.specs.Graph.{TraceEdge}
use Rattle.trace_graph.specs.Words.{graph_words}
use Rattle.trace_graph.specs.Fits.{item_is_fit}
use Rattle.trace.specs.Shift.{shift_edges}
use Rattle.trace.specs.Reduce.{reduce_edges}
use Rattle.trace.specs.declared.Action.{Action}
use Rattle.trace.specs.declared.Action.TheVariants.{Shift, Reduce}

-- a table t with its productions in words g, and a state and an item of it
pub record Asked (t g : List ℕ) (productions s p i : ℕ) : Type 0 where
  pub same : productions_in g productions ≡ (meaning t).productions
  pub state : s < length (meaning t).states
  pub item : item_is_fit (productions_in g productions) p i ≡ true

-- which of the two traces is made
abbrev pub edges_by : Action → Table → ℕ → Item → List TraceEdge
edges_by Shift = shift_edges
edges_by Reduce = reduce_edges

-- the edges stand at the front of the words, and are not too many for a graph
pub record Built (es : List TraceEdge) (ws : List ℕ) : Type 0 where
  pub count : slice_index_or ws 0 0 ≡ length es
  pub few : length es ≤ edge_limit
  pub words : take (edge_place (length es)) ws ≡ graph_words es
