use Rattle.std.proofs.Common.{◌≡◌}
use Rattle.trace.proofs.Collecting.{Collecting}
use Rattle.trace.proofs.tails.collect.Given as goal

abbrev pub invariant-loop-read : goal.invariant-loop-read
invariant-loop-read l = (l.read-iterator.table.words.now ≡ l.table.words.now) × Collecting l.table.words.now l.tail l.records l.met l.read-iterator.at l.count
