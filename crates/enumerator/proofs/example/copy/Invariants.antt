use Rattle.std.proofs.Common.{◌≡◌, length}
use lib.Seq.{paste}
use Rattle.enumerator.proofs.example.copy.Given as goal

abbrev pub invariant-loop-i : goal.invariant-loop-i
invariant-loop-i l = (l.buffer ≡ paste l.initial.buffer l.at l.from l.i) × (length l.buffer ≡ length l.initial.buffer)
