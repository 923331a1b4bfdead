use Rattle.table_rewrite.specs.compaction.Passes.{Followed}
use Rattle.table_rewrite.proofs.compaction.follow_heads.Given as goal

abbrev pub invariant-loop-r : goal.invariant-loop-r
invariant-loop-r l = Followed l.numbers l.initial.table l.table l.heads.first l.r l.heads.k
