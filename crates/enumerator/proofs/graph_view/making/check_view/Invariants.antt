use Prim.Native.Nat.{◌≤◌}
use Rattle.lr1_base.specs.repr.Packed.{productions_in}
use Rattle.trace_graph.specs.Words.{edges_in}
use Rattle.trace_graph.proofs.Checks.{Checked}
use Rattle.enumerator.proofs.trials.Stepping.{ends}
use Rattle.enumerator.specs.graph_view.View.{Viewed}
use Rattle.enumerator.proofs.graph_view.Labelling.{Labelling}
use Rattle.enumerator.proofs.graph_view.making.check_view.Given as goal

abbrev pub invariant-loop-k : goal.invariant-loop-k
invariant-loop-k l = Checked l.n (productions_in l.grammar.words.now l.grammar.productions) l.graph l.ix l.k
    × ((l.k ≤ l.count) × (Labelling (productions_in l.grammar.words.now l.grammar.productions) (edges_in l.graph) l.lists.owners l.codes l.k × Viewed (ends l.graph) (record { production = l.start.production; index = l.start.index }) l.lists.sources l.lists.older l.lists.latest l.k))
