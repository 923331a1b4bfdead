use Rattle.std.specs.Prelude.{◌≡◌, ◌+◌, ◌-◌, ◌≤◌, List, length}
use Rattle.lr1_base.specs.repr.Sizes.{example_limit}
use Rattle.lr1_base.specs.repr.Meaning.{Item}
use Rattle.lr1_base.specs.repr.Packed.{productions_in}
use Rattle.trace_graph.specs.Graph.{TraceEdge}
use Rattle.enumerator.specs.trials.Advance.{set_of}
use Rattle.enumerator.specs.graph_view.Trial.{trial_room}
use Rattle.conflict_sides.specs.outline.Lent.{SameWords}
use Rattle.conflict_sides.specs.examples.Listing.{Listable}
use Rattle.conflict_sides.proofs.examples.Walks.{Walk}
use Rattle.conflict_sides.proofs.examples.Turns.{Turn}
use Rattle.conflict_sides.proofs.examples.list_outlines.Given as goal

abbrev pub invariant-loop-number : goal.invariant-loop-number
invariant-loop-number l = ((length l.words ≡ trial_room) × (l.count + l.turn ≤ example_limit) × SameWords l.initial.side l.side)
    × ((es : List TraceEdge) (start : Item) → Listable (productions_in l.filter.grammar.words.now l.filter.grammar.productions) es l.view.labels.owners.now l.view.labels.codes.now l.view.sources.bytes.now l.view.older.now l.view.latest.now start
    → Walk l.filter.sets.now.terminals l.filter.sets.now.map (productions_in l.filter.grammar.words.now l.filter.grammar.productions) (set_of l.filter.lookahead) es start l.words l.made
    × Turn l.filter.sets.now.terminals l.filter.sets.now.map (productions_in l.filter.grammar.words.now l.filter.grammar.productions) (set_of l.filter.lookahead) es start l.shift l.count l.initial.side.kept.now l.initial.side.prints.now l.side.kept.now l.side.prints.now l.turn l.made)

abbrev pub decreases-loop-number : goal.decreases-loop-number
decreases-loop-number l = example_limit - (l.count + l.turn)
