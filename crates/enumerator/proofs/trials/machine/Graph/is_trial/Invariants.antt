use Rattle.enumerator.proofs.trials.Holding.{Walking}
use Rattle.enumerator.proofs.trials.machine.Graph.is_trial.Given as goal

abbrev pub invariant-loop-at : goal.invariant-loop-at
invariant-loop-at l = Walking l.self.words.now l.words l.depth l.fn.start.production l.fn.start.index l.node l.at
