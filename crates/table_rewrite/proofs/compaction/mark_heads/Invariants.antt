use Rattle.table_rewrite.specs.compaction.Passes.{HeadsMarked}
use Rattle.table_rewrite.proofs.compaction.mark_heads.Given as goal

abbrev pub invariant-loop-r : goal.invariant-loop-r
invariant-loop-r l = HeadsMarked l.table.words.now l.heads.first l.r l.heads.k l.initial.numbers l.numbers
