-- The items of a state that can shift a nonterminal, each once, in the order of the chain: tracing over them gives what tracing over the chain gives (`epsilon-shifting` and
-- `reduce_shifting` of proofs/Repeated).
use Rattle.std.specs.Prelude.{ℕ, ◌/◌, ◌%◌, true, false, List, [], ◌∷◌}
use Rattle.lr1_base.specs.repr.Lists.{some?, keep}
use Rattle.lr1_base.specs.repr.Meaning.{Item, Table, state_at}
use Rattle.trace_graph.specs.Graph.{same_item}
use Rattle.trace.specs.Traced.{can_shift}

-- without those that are among ms or stand earlier
unfoldable pub distinct_from : List Item → List Item → List Item
distinct_from ms [] = []
distinct_from ms (i ∷ is) = elim (some? (same_item i) ms) [ true ↦ distinct_from ms is | false ↦ i ∷ distinct_from (i ∷ ms) is ]

unfoldable pub distinct : List Item → List Item
distinct is = distinct_from [] is

unfoldable pub shifting : Table → ℕ → ℕ → List Item
shifting T s n = distinct (keep (can_shift T n) (state_at T s).items)
