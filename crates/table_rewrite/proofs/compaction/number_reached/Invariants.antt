use Rattle.std.proofs.Common.{◌≡◌, ◌+◌, length}
use Rattle.lr1_base.specs.repr.Sizes.{record_limit}
use Rattle.table.specs.Words.{loose}
use Rattle.table_rewrite.specs.compaction.Compaction.{rank}
use Rattle.table_rewrite.specs.compaction.Passes.{Numbering}
use Rattle.table_rewrite.proofs.compaction.number_reached.Given as goal

abbrev pub invariant-loop-r : goal.invariant-loop-r
invariant-loop-r l = record { count : l.count ≡ loose l.table.words.now + rank l.table.words.now l.r; numbering : Numbering l.table.words.now l.numbers l.r; long : length l.numbers ≡ record_limit }
