use mathlib.Core.Path.{◌≡◌}
use Rattle.state_graph.proofs.Along.{Along}
use Rattle.state_graph.proofs.Step.leads.Given as goal

abbrev pub invariant-loop-edge : goal.invariant-loop-edge
invariant-loop-edge l = (l.edge-iterator.table.words.now ≡ l.self.table.words.now) × Along l.self.table.words.now l.self.kind l.self.number l.self.set.low l.self.set.high l.state l.edge-iterator.at
