-- What writing a yacc text answers and leaves in the lent bytes (docs/YACC.md), for every table and every buffer: 1 to 8, then 23, then 17.
use Rattle.std.specs.Prelude.{ℕ, true, false, List, length, leb}
use Rattle.lr1_base.specs.words.Lent.{in_front}
use Rattle.lr1_base.specs.repr.Reply.{Reply, answered, refused}
use Rattle.lr1_base.specs.repr.Meaning.{Table}
use Rattle.table.specs.Checked.{Accepted, Refused}
use Rattle.table.specs.Decoded.{meaning}
use Rattle.table.specs.Refusals.{check_of}
use Rattle.yacc_writer.specs.text.Text.{ascending, text_of}

-- the answer, and the lent bytes after the call
pub record Outcome : Type 0 where
  pub answer : Reply ℕ
  pub text : List ℕ

unfoldable pub written_of : Table → List ℕ → Outcome
written_of T text = elim (ascending 0 T.nonterminals) [
  | true ↦ elim (leb (length (text_of T)) (length text)) [
    | true ↦ record { answer = answered (length (text_of T)); text = in_front (text_of T) text }
    | false ↦ record { answer = refused 17 0; text = text }
  ]
  | false ↦ record { answer = refused 23 0; text = text }
]

unfoldable pub write_of : List ℕ → List ℕ → Outcome
write_of t text = elim (check_of t) [ Accepted ↦ written_of (meaning t) text | Refused n r ↦ record { answer = refused n r; text = text } ]
