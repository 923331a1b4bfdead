-- `backtrace_shift` (lr1/trace/shift).
use Rattle.std.specs.Prelude.{ℕ, zero, suc, true, false, List, nat_lt}
use Rattle.lr1_base.specs.repr.Lists.{mem}
use Rattle.lr1_base.specs.repr.Meaning.{Item, Table, state_at}
use Rattle.state_graph.specs.Walk.{traced_back}
use Rattle.trace_graph.specs.Graph.{TraceEdge, at_nonterminal, at_item}
use Rattle.trace.specs.Traced.{Trace, untraced, pair, enter, add_to, owner_of, can_shift, prefix_of, in_turn, pairs}

-- one item of the state that can shift nonterminal n: past its beginning an edge from the item; at its beginning an edge from its nonterminal, which is followed inside the same state
unfoldable pub epsilon_item : Table → ℕ → (ℕ → Trace → Trace) → Item → Trace → Trace
epsilon_item T n go i st = elim (can_shift T n i) [
  | true ↦ elim (nat_lt 0 i.index) [
    | true ↦ add_to T (at_item i) (at_nonterminal n) i st
    | false ↦ go (owner_of T i) (add_to T (at_nonterminal (owner_of T i)) (at_nonterminal n) i st)
  ]
  | false ↦ st
]

-- `trace_epsilon_edges`: each pair is entered once
unfoldable pub epsilon : Table → ℕ → ℕ → ℕ → Trace → Trace
epsilon T zero s n st = st
epsilon T (suc f) s n st = elim (mem (pair s n) st.seen) [
  | true ↦ st
  | false ↦ in_turn (epsilon_item T n (λ m u. epsilon T f s m u)) (state_at T s).items (enter s n st)
]

unfoldable pub shift_trace : Table → ℕ → Item → Trace
shift_trace T s i =
    in_turn (λ p u. epsilon T pairs p (owner_of T i) u) (traced_back T s (prefix_of T i)) (add_to T (at_nonterminal (owner_of T i)) (at_item i) i untraced)

unfoldable pub shift_edges : Table → ℕ → Item → List TraceEdge
shift_edges T s i = (shift_trace T s i).edges
