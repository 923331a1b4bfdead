use Rattle.std.proofs.Common.{◌≡◌}
use Rattle.trace.proofs.Passing.{Passing}
use Rattle.trace.proofs.shift.adds_nothing.Given as goal

abbrev pub invariant-loop-read : goal.invariant-loop-read
invariant-loop-read l = (l.read-iterator.table.words.now ≡ l.tracer.table.words.now) × Passing l.tracer.table.words.now l.state l.edges.flags.now l.entered l.known.state l.read-iterator.at
