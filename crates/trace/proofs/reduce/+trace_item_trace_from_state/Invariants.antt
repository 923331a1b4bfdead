use Rattle.std.proofs.Common.{◌≡◌, ℕ, ◌+◌, ◌*◌, ◌<◌, true, length}
use Rattle.lr1_base.specs.repr.Lists.{mem}
use Rattle.lr1_base.specs.repr.Meaning.{state_at}
use Rattle.table.specs.Decoded.{meaning, items_from}
use Rattle.state_graph.specs.States.{states_in}
use Rattle.trace.proofs.Steps.{from_state, on_item}
use Rattle.trace.specs.edge_codes.Lent.{SameWords}
use Rattle.trace.specs.Held.{unset}
use Rattle.trace.proofs.ReduceSteps.{Left}
use Rattle.trace.proofs.reduce.+trace_item_trace_from_state.Given as goal

abbrev pub invariant-trace_item-loop-from : goal.invariant-trace_item-loop-from
invariant-trace_item-loop-from l = ((k : ℕ) → mem k (states_in l.from-iterator.0.low l.from-iterator.0.high) ≡ true → k < length (meaning l.over.tracer.table.words.now).states) × Left (meaning l.over.tracer.table.words.now) (from_state (meaning l.over.tracer.table.words.now) l.owner) (states_in l.initial.from-iterator.0.low l.initial.from-iterator.0.high) (states_in l.from-iterator.0.low l.from-iterator.0.high) l.initial.edges.words.now l.initial.edges.flags.now l.initial.entered l.initial.stamps.words l.edges.words.now l.edges.flags.now l.entered l.stamps.words × (l.walk.table.words.now ≡ l.initial.walk.table.words.now) × SameWords l.initial.edges l.edges

abbrev pub invariant-trace_from_state-loop-read : goal.invariant-trace_from_state-loop-read
invariant-trace_from_state-loop-read l = (l.read-iterator.table.words.now ≡ l.over.tracer.table.words.now) × Left (meaning l.over.tracer.table.words.now) (on_item (meaning l.over.tracer.table.words.now) l.state l.nonterminal) (state_at (meaning l.over.tracer.table.words.now) l.state).items (items_from l.over.tracer.table.words.now l.read-iterator.at) l.initial.edges.words.now l.initial.edges.flags.now l.initial.entered l.initial.stamps.words l.edges.words.now l.edges.flags.now l.entered l.stamps.words × (l.walk.table.words.now ≡ l.initial.walk.table.words.now) × SameWords l.initial.edges l.edges

abbrev pub decreases-trace_item : goal.decreases-trace_item
decreases-trace_item l = unset l.entered.now * 2 + 1

abbrev pub decreases-trace_from_state : goal.decreases-trace_from_state
decreases-trace_from_state l = unset l.entered.now * 2
