use Rattle.std.proofs.Common.{◌≤◌}
use Rattle.lr1_base.specs.repr.Packed.{productions_in}
use Rattle.trace_graph.proofs.Checks.{Checked}
use Rattle.trace_graph.proofs.check_graph.Given as goal

abbrev pub invariant-loop-k : goal.invariant-loop-k
invariant-loop-k l = Checked l.n (productions_in l.grammar.words.now l.grammar.productions) l.graph l.ix l.k × (l.k ≤ l.count)
