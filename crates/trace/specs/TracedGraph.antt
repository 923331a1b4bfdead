-- What holds of the graph that an accepted trace leaves in the lent buffer (docs/RULES.md, "The trace graph", "Tracing").
use Rattle.std.specs.Prelude.{◌≡◌, ℕ, ◌≤◌, true, List, length}
use Rattle.lr1_base.specs.repr.Sizes.{graph_room}
use Rattle.lr1_base.specs.repr.Meaning.{Item, Table, All}
use Rattle.table.specs.Checked.{Accepted}
use Rattle.table.specs.Decoded.{meaning}
use Rattle.table.specs.Refusals.{check_of}
use Rattle.trace_graph.specs.Graph.{TraceEdge, at_item, is_node_of}
use Rattle.trace_graph.specs.Words.{edges_in}
use Rattle.trace_graph.specs.Fits.{item_is_fit, graph_fits}
use Rattle.trace.specs.Sound.{EdgeSound, Rooted}

-- i: the traced item; Step: how a nonterminal leads to a nonterminal in this trace (specs/Sound)
pub record Traced (Step : Table → TraceEdge → Type 0) (t : List ℕ) (i : Item) (graph : List ℕ) : Type 0 where
  pub accepted : check_of t ≡ Accepted
  pub item : item_is_fit (meaning t).productions i.production i.index ≡ true
  pub long : graph_room ≤ length graph
  -- it passes the check of a lent graph, and the traced item is a node of it
  pub passes : graph_fits (length (meaning t).nonterminals) (meaning t).productions graph ≡ true
  pub node : is_node_of (at_item i) (edges_in graph) ≡ true
  -- how the ends of an edge go with its label, and how one edge leads to another
  pub edges : All (EdgeSound (meaning t)) (edges_in graph)
  pub rooted : Rooted (meaning t) i (edges_in graph)
  pub steps : All (Step (meaning t)) (edges_in graph)
