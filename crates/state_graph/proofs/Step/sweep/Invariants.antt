use Rattle.state_graph.proofs.Hits.{Sweeping}
use Rattle.state_graph.proofs.Step.sweep.Given as goal

abbrev pub invariant-loop-r : goal.invariant-loop-r
invariant-loop-r l = Sweeping l.self.table.words.now l.self.kind l.self.number l.self.set.low l.self.set.high l.hits l.r
