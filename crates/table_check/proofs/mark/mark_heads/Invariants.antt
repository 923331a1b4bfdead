use Rattle.std.proofs.Common.{◌≤◌, ◌-◌}
use Rattle.table.specs.Words.{loose}
use Rattle.table_check.specs.Passed.{Passed}
use Rattle.table_check.proofs.mark.mark_heads.Given as goal

abbrev pub invariant-loop-r : goal.invariant-loop-r
invariant-loop-r l = (l.first ≤ l.r) × Passed l.s.words.now l.first l.n l.k (l.r - l.first) (loose l.s.words.now) l.marks
