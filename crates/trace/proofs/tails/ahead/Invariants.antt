use Rattle.trace.proofs.Passing.{Further}
use Rattle.trace.proofs.tails.ahead.Given as goal

abbrev pub invariant-loop : goal.invariant-loop
invariant-loop l = Further l.table.words.now l.first l.at
