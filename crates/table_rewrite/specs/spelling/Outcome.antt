-- What `respell` answers and leaves in the lent words (docs/RULES.md, "One spelling"), for every table and every output.
use Rattle.std.specs.Prelude.{ℕ, ◌/◌, Bool, true, false, ◌&&◌, List, length, leb}
use Rattle.lr1_base.specs.repr.Reply.{Reply, answered, refused}
use Rattle.lr1_base.specs.repr.Sizes.{record_limit}
use Rattle.lr1_base.specs.words.Lent.{in_front}
use Rattle.lr1_base.specs.repr.Meaning.{Table}
use Rattle.table.specs.Checked.{Accepted, Refused}
use Rattle.table.specs.Decoded.{meaning}
use Rattle.table.specs.Refusals.{check_of}
use Rattle.table_rewrite.specs.spelling.Spelled.{records_of, spell}

-- the answer, and the output's words after the call
pub record Outcome : Type 0 where
  pub answer : Reply ℕ
  pub out : List ℕ

-- at most 8,192 records, and room for them: a part of a record is no room
unfoldable pub room_for : Table → List ℕ → Bool
room_for T out = leb (records_of T) record_limit && leb (records_of T) (length out / 4)

-- at the front of the output; no word behind it changes
unfoldable pub written_of : Table → List ℕ → Outcome
written_of T out = elim (room_for T out) [
  | true ↦ record { answer = answered (records_of T); out = in_front (spell T) out }
  | false ↦ record { answer = refused 17 0; out = out }
]

unfoldable pub respell_of : List ℕ → List ℕ → Outcome
respell_of t out = elim (check_of t) [ Accepted ↦ written_of (meaning t) out | Refused n r ↦ record { answer = refused n r; out = out } ]
