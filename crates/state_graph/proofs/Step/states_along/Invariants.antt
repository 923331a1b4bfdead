use Rattle.state_graph.proofs.Hits.{Finding}
use Rattle.state_graph.proofs.Step.states_along.Given as goal

abbrev pub invariant-loop-s : goal.invariant-loop-s
invariant-loop-s l = Finding l.self.table.words.now l.self.kind l.self.number l.self.set.low l.self.set.high l.found.low l.found.high l.s
