use Rattle.enumerator.proofs.trials.Stepping.{read_target}
use Rattle.enumerator.proofs.trials.machine.Graph.entered.Goals as goal

pub returns : goal.returns
returns c = read_target _ _ _ c.read_edge.ensures.1
