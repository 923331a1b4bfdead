-- What `backtrace_shift` and `backtrace_reduce` answer and leave: answer, graph words, scratch words.
use Rattle.std.specs.Prelude.{ℕ, true, false, ◌&&◌, List, length, nat_le, nat_lt}
use Rattle.lr1_base.specs.repr.Reply.{Reply, answered, refused}
use Rattle.lr1_base.specs.repr.Sizes.{edge_limit, graph_room, scratch_words}
use Rattle.lr1_base.specs.words.Lent.{in_front, zeroed}
use Rattle.lr1_base.specs.repr.Meaning.{Item, Table}
use Rattle.table.specs.Checked.{Checked, Accepted, Refused as NotAccepted}
use Rattle.table.specs.Decoded.{meaning}
use Rattle.table.specs.Refusals.{check_of}
use Rattle.trace_graph.specs.Graph.{TraceEdge}
use Rattle.trace_graph.specs.Words.{graph_words}
use Rattle.trace_graph.specs.Fits.{item_is_fit}
use Rattle.trace.specs.Shift.{shift_edges}
use Rattle.trace.specs.Reduce.{reduce_edges}

pub data Outcome : Type 0 where
  outcome : Reply ℕ → List ℕ → List ℕ → Outcome

-- accepted: count and edges at the front of the graph, scratch zeroed; refusal 12: scratch zeroed, the graph as it was
unfoldable pub edges_outcome : List ℕ → List ℕ → List TraceEdge → Outcome
edges_outcome graph scratch es = elim (nat_le (length es) edge_limit) [
  | true ↦ outcome (answered (length es)) (in_front (graph_words es) graph) (zeroed scratch_words scratch)
  | false ↦ outcome (refused 12 0) graph (zeroed scratch_words scratch)
]

-- refusals 9 and 11; nothing is changed
unfoldable pub traced_in : (Table → ℕ → Item → List TraceEdge) → ℕ → Item → List ℕ → List ℕ → Table → Outcome
traced_in edges s i graph scratch T = elim (nat_lt s (length T.states) && item_is_fit T.productions i.production i.index) [
  | false ↦ outcome (refused 9 0) graph scratch
  | true ↦ elim (nat_le graph_room (length graph) && nat_le scratch_words (length scratch)) [
    | false ↦ outcome (refused 11 0) graph scratch
    | true ↦ edges_outcome graph scratch (edges T s i)
  ]
]

unfoldable pub trace_by : (Table → ℕ → Item → List TraceEdge) → List ℕ → ℕ → Item → List ℕ → List ℕ → Checked → Outcome
trace_by edges t s i graph scratch (NotAccepted n r) = outcome (refused n r) graph scratch
trace_by edges t s i graph scratch Accepted = traced_in edges s i graph scratch (meaning t)

unfoldable pub shift_of : List ℕ → ℕ → Item → List ℕ → List ℕ → Outcome
shift_of t s i graph scratch = trace_by shift_edges t s i graph scratch (check_of t)

unfoldable pub reduce_of : List ℕ → ℕ → Item → List ℕ → List ℕ → Outcome
reduce_of t s i graph scratch = trace_by reduce_edges t s i graph scratch (check_of t)
