-- What `build_states` answers and leaves in the lent words (docs/RULES.md, "Building states"), for every table, start production and buffers.
use Rattle.std.specs.Prelude.{ℕ, ◌/◌, Bool, true, false, ◌&&◌, List, length, eqb, ltb}
use Rattle.lr1_base.specs.repr.Meaning.{Table, state_at}
use Rattle.lr1_base.specs.repr.Reply.{Reply, answered, refused}
use Rattle.lr1_base.specs.words.Lent.{in_front, zeroed}
use Rattle.table.specs.Checked.{Accepted, Refused as NotAccepted}
use Rattle.table.specs.Decoded.{meaning}
use Rattle.table.specs.Refusals.{check_of}
use Rattle.table_rewrite.specs.spelling.Spelled.{records_of, spell}
use Rattle.lr1_states.specs.canonical.States.{clashes}
use Rattle.lr1_states.specs.canonical.Built.{built_table, conflict_words}
use Rattle.lr1_states.specs.canonical.Outcome.{sum, Outcome, refused as stopped, full, outcome}
use Rattle.lr1_tables.specs.declared.Built.{Built}

-- the words of scratch that 11 asks for, and that success and every refusal from 16 on zero
abbrev pub build_scratch : ℕ
build_scratch = 64000

-- the answer, and every lent word after the call
pub record Left : Type 0 where
  pub answer : Reply Built
  pub scratch : List ℕ
  pub out : List ℕ
  pub conflicts : List ℕ

-- 18: anything but one state without items and edges is "states already given"
unfoldable pub grammar_alone : Table → Bool
grammar_alone T = eqb (length T.states) 1 && (eqb (length (state_at T 0).items) 0 && eqb (length (state_at T 0).edges) 0)

unfoldable pub start_is_fit : Table → ℕ → Bool
start_is_fit T start = ltb start (length T.productions) && grammar_alone T

-- how many conflicts there are
unfoldable pub conflict_count : Table → List (List ℕ) → ℕ
conflict_count T Rs = sum (λ (S : List ℕ). length (clashes T S)) Rs

-- a refusal from 16 on writes nothing
unfoldable pub built_of : Table → List ℕ → List ℕ → List ℕ → Outcome → Left
built_of T scratch out conflicts (stopped n) = record { answer = refused n 0; scratch = zeroed build_scratch scratch; out = out; conflicts = conflicts }
built_of T scratch out conflicts (full Rs es) = record {
  answer = answered (record { records = records_of (built_table T Rs es); conflicts = conflict_count T Rs });
  scratch = zeroed build_scratch scratch;
  out = in_front (spell (built_table T Rs es)) out;
  conflicts = in_front (conflict_words T Rs) conflicts;
}

-- 11, then 18, then what is found; a part of a record is no room
unfoldable pub built_in : Table → ℕ → List ℕ → List ℕ → List ℕ → Left
built_in T start scratch out conflicts = elim (ltb (length scratch) build_scratch) [
  | true ↦ record { answer = refused 11 0; scratch = scratch; out = out; conflicts = conflicts }
  | false ↦ elim (start_is_fit T start) [
    | false ↦ built_of T scratch out conflicts (stopped 18)
    | true ↦ built_of T scratch out conflicts (outcome T start (length out / 4) (length conflicts))
  ]
]

-- `build_states`: table, start production, scratch, the table's buffer, the conflicts'
unfoldable pub build_of : List ℕ → ℕ → List ℕ → List ℕ → List ℕ → Left
build_of t start scratch out conflicts = elim (check_of t) [
  | NotAccepted n r ↦ record { answer = refused n r; scratch = scratch; out = out; conflicts = conflicts }
  | Accepted ↦ built_in (meaning t) start scratch out conflicts
]
