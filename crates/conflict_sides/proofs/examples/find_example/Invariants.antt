use Rattle.std.specs.Prelude.{◌≡◌, List, length}
use Rattle.lr1_base.specs.repr.Meaning.{Item}
use Rattle.lr1_base.specs.repr.Packed.{productions_in}
use Rattle.trace_graph.specs.Graph.{TraceEdge}
use Rattle.enumerator.specs.trials.Advance.{set_of}
use Rattle.conflict_sides.specs.examples.Listing.{Listable}
use Rattle.conflict_sides.proofs.examples.Walks.{Walk}
use Rattle.conflict_sides.proofs.examples.Seeking.{Seeks}
use Rattle.conflict_sides.proofs.examples.find_example.Given as goal

abbrev pub invariant-loop-number : goal.invariant-loop-number
invariant-loop-number l = (length l.words ≡ length l.initial.words)
    × ((es : List TraceEdge) (start : Item) → Listable (productions_in l.filter.grammar.words.now l.filter.grammar.productions) es l.view.labels.owners.now l.view.labels.codes.now l.view.sources.bytes.now l.view.older.now l.view.latest.now start
    → Walk l.filter.sets.now.terminals l.filter.sets.now.map (productions_in l.filter.grammar.words.now l.filter.grammar.productions) (set_of l.filter.lookahead) es start l.words l.made × Seeks l.filter.sets.now.terminals l.filter.sets.now.map (productions_in l.filter.grammar.words.now l.filter.grammar.productions) (set_of l.filter.lookahead) es start l.wanted l.left l.made)

abbrev pub decreases-loop-number : goal.decreases-loop-number
decreases-loop-number l = l.left
