use Rattle.state_graph.proofs.States.{state_none}
use Rattle.state_graph.proofs.StateSet.new.Goals as goal

pub returns : goal.returns
returns c = state_none
