use Rattle.state_graph.proofs.States.{state_or}
use Rattle.state_graph.proofs.StateSet.union.Goals as goal

pub returns : goal.returns
returns c = λ k. state_or c.args.self.low c.args.self.high c.args.other.low c.args.other.high k
