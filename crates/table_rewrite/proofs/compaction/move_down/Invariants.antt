use Rattle.table_rewrite.specs.compaction.Passes.{Closing}
use Rattle.table_rewrite.proofs.compaction.move_down.Given as goal

abbrev pub invariant-loop-r : goal.invariant-loop-r
invariant-loop-r l = Closing l.initial.table l.table l.r
