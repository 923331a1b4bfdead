use Rattle.std.proofs.Common.{◌+◌}
use Rattle.enumerator.proofs.trials.Holding.{Gathered}
use Rattle.enumerator.proofs.trials.machine.only_zeros.Given as goal

abbrev pub invariant-loop-word : goal.invariant-loop-word
invariant-loop-word l = Gathered l.words l.from (l.from + l.word-index) l.all
