-- What `compact` answers and leaves in the lent words (docs/RULES.md, "Unused records"), for every slice.
use Rattle.std.specs.Prelude.{ℕ, List}
use Rattle.lr1_base.specs.repr.Reply.{Reply, answered, refused}
use Rattle.table.specs.Checked.{Accepted, Refused}
use Rattle.table.specs.Refusals.{check_of}
use Rattle.table_rewrite.specs.compaction.Compaction.{count_of, compacted}

-- the answer, and the table's words after the call
pub record Outcome : Type 0 where
  pub answer : Reply ℕ
  pub table : List ℕ

-- refusals 1 to 8 change nothing, and there is no other
unfoldable pub compact_of : List ℕ → Outcome
compact_of t = elim (check_of t) [
  | Accepted ↦ record { answer = answered (count_of t); table = compacted t }
  | Refused n r ↦ record { answer = refused n r; table = t }
]
