-- The code's `EdgeKind` and `EdgeCode`: the numbers of the kinds, and of which edge one is.
use Rattle.std.specs.Prelude.{◌≡◌, ℕ, Bool, true, false}
use Rattle.trace_graph.specs.Graph.{TraceEdge}
use Rattle.trace.specs.edge_codes.Codes.{kind_of}
use Rattle.trace.specs.declared.edge_codes.EdgeKind.{EdgeKind}
use Rattle.trace.specs.declared.edge_codes.EdgeKind.TheVariants.{IntoItem, Between, FromItem}
use Rattle.trace.specs.declared.edge_codes.EdgeCode.{EdgeCode}

abbrev pub kind_number : EdgeKind → ℕ
kind_number IntoItem = 0
kind_number Between = 1
kind_number FromItem = 2

-- of an edge into a nonterminal: from a nonterminal, or from an item
abbrev pub kind_from : Bool → EdgeKind
kind_from true = Between
kind_from false = FromItem

-- the edge's kind and label are these
pub record IsCodeOf (c : EdgeCode) (e : TraceEdge) : Type 0 where
  pub kind : kind_number c.kind ≡ kind_of e.source e.target
  pub label : record { production = c.item.production; index = c.item.index } ≡ e.label
