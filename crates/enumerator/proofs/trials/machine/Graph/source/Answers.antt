use Rattle.enumerator.proofs.trials.Stepping.{read_source}
use Rattle.enumerator.proofs.trials.machine.Graph.source.Goals as goal

pub returns : goal.returns
returns c = read_source _ _ _ c.read_edge.ensures.1
