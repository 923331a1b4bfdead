-- What a conflict's two sides gather (`shift_examples`, `reduce_examples`; docs/RULES.md, "Classes"): all examples of the plain lister over the traced edges, kept by the filter.
use Rattle.std.specs.Prelude.{ℕ, zero, suc, ◌+◌, true, false, List, [], ◌∷◌, ◌++◌, map, length, take, nat_lt, slice_index_or}
use Rattle.std.proofs.Math.Option.{Option, none, some}
use Rattle.lr1_base.specs.repr.Sizes.{edge_limit, trial_limit, example_limit}
use Rattle.lr1_base.specs.repr.Lists.{keep}
use Rattle.lr1_base.specs.repr.Meaning.{no_production, Item, Table}
use Rattle.lr1_base.specs.lookahead.Tokens.{single}
use Rattle.trace_graph.specs.Graph.{TraceEdge, at_item}
use Rattle.trace.specs.Shift.{shift_edges}
use Rattle.trace.specs.Reduce.{reduce_edges}
use Rattle.enumerator.specs.example.Example.{Label}
use Rattle.enumerator.specs.trials.Trials.{ends_of, trials}
use Rattle.enumerator.specs.trials.Lister.{hands, labels_of}
use Rattle.conflict_sides.specs.declared.conflict.Conflict.{Conflict}
use Rattle.conflict_sides.specs.conflict.Items.{shift_items}

-- the examples and the number of trials; or the refusal, 12 to 14
pub data Side : Type 0 where
  gathered : List (List Label) → ℕ → Side
  stopped : ℕ → Side

-- one listing, k examples being on its side already: 12 for the trace; 14 where example 193 is among the first 100,000 trials, else 13 where there is a trial more
unfoldable pub listing_side : Table → List TraceEdge → Item → Option ℕ → ℕ → Side
listing_side T es i ahead k =
    let ts = trials (ends_of es) (at_item i) in
    elim (nat_lt edge_limit (length es)) [
      | true ↦ stopped 12
      | false ↦ elim (nat_lt example_limit (k + length (keep (hands T es ahead) (take trial_limit ts)))) [
        | true ↦ stopped 14
        | false ↦ elim (nat_lt trial_limit (length ts)) [
          | true ↦ stopped 13
          | false ↦ gathered (map (labels_of T.productions es) (keep (hands T es ahead) ts)) (length ts)
        ]
      ]
    ]

-- a listing more: its examples after those gathered, its trials added
unfoldable pub with_more : Side → Side → Side
with_more (stopped n) more = stopped n
with_more (gathered xs m) (stopped n) = stopped n
with_more (gathered xs m) (gathered ys n) = gathered (xs ++ ys) (m + n)

unfoldable pub examples_in : Side → ℕ
examples_in (stopped n) = 0
examples_in (gathered xs m) = length xs

-- the shift items in their order, each traced and listed before the next; so is what has been gathered
unfoldable pub shift_side_from : Table → ℕ → Side → List Item → Side
shift_side_from T s so [] = so
shift_side_from T s so (i ∷ is) = shift_side_from T s (with_more so (listing_side T (shift_edges T s i) i none (examples_in so))) is

unfoldable pub shift_side : Table → ℕ → ℕ → Side
shift_side T s token = shift_side_from T s (gathered [] 0) (shift_items T s token)

-- a production at its end
unfoldable pub item_of_reduce : Table → ℕ → Item
item_of_reduce T p = record { production = p; index = length (slice_index_or T.productions p no_production).symbols }

unfoldable pub reduce_side : Table → ℕ → ℕ → ℕ → Side
reduce_side T s p token = listing_side T (reduce_edges T s (item_of_reduce T p)) (item_of_reduce T p) (some (single token)) 0

-- by the conflict's action
unfoldable pub action_side_of : Table → ℕ → ℕ → ℕ → ℕ → Side
action_side_of T s zero operand token = shift_side T s token
action_side_of T s (suc k) operand token = reduce_side T s operand token

-- the action side is worked first, the reduce side even if the first is empty
pub data Gathered : Type 0 where
  sides : List (List Label) → ℕ → List (List Label) → ℕ → Gathered
  halted : ℕ → Gathered

unfoldable pub both_sides : Side → Side → Gathered
both_sides (stopped n) reduce = halted n
both_sides (gathered xs m) (stopped n) = halted n
both_sides (gathered xs m) (gathered ys n) = sides xs m ys n

unfoldable pub gather : Table → Conflict → Gathered
gather T c = both_sides (action_side_of T c.state.0 c.action c.operand c.token) (reduce_side T c.state.0 c.production.0 c.token)
