use Rattle.table_check.proofs.Bumped.{Left}
use Rattle.table_check.proofs.held.hold.Given as goal

abbrev pub invariant-loop-n : goal.invariant-loop-n
invariant-loop-n l = Left l.s.words.now l.n l.count l.held l.initial.held
