use Prim.Native.Nat.{◌+◌, ◌≤◌}
use Rattle.deep.proofs.put_rows.Given as goal

abbrev pub invariant-loop-i : goal.invariant-loop-i
invariant-loop-i l = (l.words.0 ≤ 500 + l.i) × (l.words.1 ≤ 500 + l.i) × (l.words.2 ≤ 500 + l.i) × (l.words.3 ≤ 500 + l.i)
