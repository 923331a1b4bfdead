use Prim.Native.Nat.{◌+◌, ◌*◌, ◌≤◌}
use Rattle.parse_words.proofs.main.Given as goal

abbrev pub invariant-loop-piece : goal.invariant-loop-piece
invariant-loop-piece l = (l.reader.line ≤ 1 + l._piece * 65536) × (l.reader.column ≤ 1 + l._piece * 65536)
