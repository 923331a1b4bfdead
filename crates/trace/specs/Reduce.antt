-- `backtrace_reduce` (lr1/trace/reduce).
use Rattle.std.specs.Prelude.{ℕ, zero, suc, true, false, List}
use Rattle.lr1_base.specs.repr.Lists.{mem}
use Rattle.lr1_base.specs.repr.Meaning.{Item, Table, state_at}
use Rattle.first.specs.First.{nullable}
use Rattle.state_graph.specs.Walk.{traced_back}
use Rattle.trace_graph.specs.Graph.{TraceEdge, at_nonterminal, at_item}
use Rattle.trace.specs.Traced.{Trace, untraced, pair, enter, add_to, owner_of, can_shift, prefix_of, suffix_of, in_turn, pairs}

-- one item of the state that can shift nonterminal n: where its suffix is nullable, an edge from its nonterminal, and it is traced on; else an edge from the item
unfoldable pub reduce_state_item : Table → ℕ → (Item → Trace → Trace) → Item → Trace → Trace
reduce_state_item T n go i st = elim (can_shift T n i) [
  | true ↦ elim (nullable T (suffix_of T i)) [
    | true ↦ go i (add_to T (at_nonterminal (owner_of T i)) (at_nonterminal n) i st)
    | false ↦ add_to T (at_item i) (at_nonterminal n) i st
  ]
  | false ↦ st
]

-- `trace_reduce_item`, over the step that it makes for each state found
unfoldable pub item_of_reduce : Table → (ℕ → ℕ → Trace → Trace) → ℕ → Item → Trace → Trace
item_of_reduce T go s i st =
    in_turn (λ p u. go p (owner_of T i) u) (traced_back T s (prefix_of T i)) (add_to T (at_nonterminal (owner_of T i)) (at_item i) i st)

-- `trace_reduce_from_state`: each pair is entered once; the two steps call each other
unfoldable pub state_of_reduce : Table → ℕ → ℕ → ℕ → Trace → Trace
state_of_reduce T zero s n st = st
state_of_reduce T (suc f) s n st = elim (mem (pair s n) st.seen) [
  | true ↦ st
  | false ↦ in_turn (reduce_state_item T n (λ i u. item_of_reduce T (λ p m v. state_of_reduce T f p m v) s i u)) (state_at T s).items (enter s n st)
]

unfoldable pub reduce_trace : Table → ℕ → Item → Trace
reduce_trace T s i = item_of_reduce T (λ p m v. state_of_reduce T pairs p m v) s i untraced

unfoldable pub reduce_edges : Table → ℕ → Item → List TraceEdge
reduce_edges T s i = (reduce_trace T s i).edges
