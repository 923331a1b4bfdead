use Rattle.std.specs.Prelude.{◌≡◌, ◌-◌, List, length}
use Rattle.lr1_base.specs.repr.Sizes.{trial_limit}
use Rattle.lr1_base.specs.repr.Meaning.{Item}
use Rattle.lr1_base.specs.repr.Packed.{productions_in}
use Rattle.trace_graph.specs.Graph.{TraceEdge}
use Rattle.enumerator.specs.trials.Advance.{set_of}
use Rattle.enumerator.specs.graph_view.Steps.{CountedWalk}
use Rattle.enumerator.specs.filter.Filter.{hands_by}
use Rattle.enumerator.specs.filter.Given.{Searching}
use Rattle.enumerator.proofs.filter.Turning.{Turn}
use Rattle.enumerator.proofs.filter.search.Given as goal

abbrev pub invariant-loop-counts : goal.invariant-loop-counts
invariant-loop-counts l = ((es : List TraceEdge) (start : Item) → Searching (productions_in l.filter.grammar.words.now l.filter.grammar.productions) es l.view.labels.owners.now l.view.labels.codes.now l.view.sources.bytes.now l.view.older.now l.view.latest.now l.initial.words start
    → Turn (hands_by l.filter.sets.now.terminals l.filter.sets.now.map (productions_in l.filter.grammar.words.now l.filter.grammar.productions) es (set_of l.filter.lookahead)) (productions_in l.filter.grammar.words.now l.filter.grammar.productions) es l.view.labels.owners.now l.view.labels.codes.now l.view.sources.bytes.now l.view.older.now l.view.latest.now l.initial.words start l.count l.words l.made)
    × (length l.counts ≡ 32)
    × CountedWalk l.view.sources.bytes.now l.words l.counts

abbrev pub decreases-loop-counts : goal.decreases-loop-counts
decreases-loop-counts l = trial_limit - l.made
