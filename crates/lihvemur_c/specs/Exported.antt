-- What the exported functions answer in numbers: 0, or the refusal, whose place stands behind `place`. A number behind another reference changes only with answer 0; lent words are those that the entry leaves.
use Rattle.std.specs.Prelude.{◌≡◌, ℕ, Bool, List, Option, None, Some, Result, MatchResult}
use Rattle.lr1_base.specs.declared.repr.refusals.Refusal.{Refusal}
use Rattle.lr1_base.specs.repr.Reply.{answered, refused, Reply, number_of, place_of}
use Rattle.table_rewrite.specs.spelling.Outcome.{Outcome as Spelling}
use Rattle.table_rewrite.specs.compaction.Outcome.{Outcome as Compaction}
use Rattle.lr1_tables.specs.Outcome.{Left as Building}
use Rattle.yacc_reader.specs.parsed_file.Outcome.{Outcome as ReadOutcome}
use Rattle.yacc_writer.specs.text.Outcome.{Outcome as WriteOutcome}
use Rattle.lr1_base.specs.declared.lookahead.TokenSet.{TokenSet}
use Rattle.first.specs.declared.Answer.{Answer}
use Rattle.lr1.specs.Edges.{EdgeOutcome, edge_outcome}
use Rattle.trace.specs.Outcome.{Outcome, outcome}
use Rattle.table.specs.Checked.{Checked, Accepted, Refused}

-- refusal and place
pub data Numbers : Type 0 where
  numbers : ℕ → ℕ → Numbers

unfoldable pub check_numbers : Checked → Numbers
check_numbers Accepted = numbers 0 0
check_numbers (Refused n r) = numbers n r

-- what is answered, or a refusal (a, p) and nothing
abbrev pub Told : {A : Type 0} → Result A Refusal → ℕ → ℕ → Option A → Type 0
Told r a p f = MatchResult r (λ x. (a ≡ 0) × (p ≡ 0) × (f ≡ Some x)) (λ e. (a ≡ number_of e) × (p ≡ place_of e) × (f ≡ None))

-- a count handed out, or a refusal (a, p): the count is as it was
abbrev pub HandedOut : Result ℕ Refusal → ℕ → ℕ → ℕ → ℕ → Type 0
HandedOut r a p old n = MatchResult r (λ count. (a ≡ 0) × (p ≡ 0) × (n ≡ count)) (λ x. (a ≡ number_of x) × (p ≡ place_of x) × (n ≡ old))

-- refusal, place, number of records and the words written
pub data SpellNumbers : Type 0 where
  spell_numbers : ℕ → ℕ → ℕ → List ℕ → SpellNumbers

unfoldable pub respell_numbers : ℕ → Spelling → SpellNumbers
respell_numbers old o = elim o.answer [ answered count ↦ spell_numbers 0 0 count o.out | refused n r ↦ spell_numbers n r old o.out ]

unfoldable pub compact_numbers : ℕ → Compaction → SpellNumbers
compact_numbers old o = elim o.answer [ answered count ↦ spell_numbers 0 0 count o.table | refused n r ↦ spell_numbers n r old o.table ]

-- refusal, place, number of records, number of conflicts, scratch words, and the words written of the table and of the conflicts
pub data BuildNumbers : Type 0 where
  build_numbers : ℕ → ℕ → ℕ → ℕ → List ℕ → List ℕ → List ℕ → BuildNumbers

unfoldable pub built_numbers : ℕ → ℕ → Building → BuildNumbers
built_numbers records count o = elim o.answer [
  | answered built ↦ build_numbers 0 0 built.records built.conflicts o.scratch o.out o.conflicts
  | refused n r ↦ build_numbers n r records count o.scratch o.out o.conflicts
]

-- refusal, place, number of records, number of places, start nonterminal, and the words written of the table and of the places
pub data ReadNumbers : Type 0 where
  read_numbers : ℕ → ℕ → ℕ → ℕ → ℕ → List ℕ → List ℕ → ReadNumbers

unfoldable pub reading_numbers : ℕ → ℕ → ℕ → ReadOutcome → ReadNumbers
reading_numbers records count start o = elim o.answer [
  | answered r ↦ read_numbers 0 0 r.records r.places r.start.0 o.table o.places
  | refused n r ↦ read_numbers n r records count start o.table o.places
]

-- refusal, place, number of bytes and the text
pub data WriteNumbers : Type 0 where
  write_numbers : ℕ → ℕ → ℕ → List ℕ → WriteNumbers

unfoldable pub writing_numbers : ℕ → WriteOutcome → WriteNumbers
writing_numbers old o = elim o.answer [ answered written ↦ write_numbers 0 0 written o.text | refused n r ↦ write_numbers n r old o.text ]

-- refusal, place and set; the set as it was where the call is refused
pub data SetNumbers : Type 0 where
  set_numbers : ℕ → ℕ → ℕ → SetNumbers

unfoldable pub followed_numbers : ℕ → Reply TokenSet → SetNumbers
followed_numbers old (answered s) = set_numbers 0 0 s.0
followed_numbers old (refused n r) = set_numbers n r old

-- refusal, place, set, and yes or no; both as they were where the call is refused
pub data AnswerNumbers : Type 0 where
  answer_numbers : ℕ → ℕ → ℕ → Bool → AnswerNumbers

unfoldable pub first_numbers : ℕ → Bool → Reply Answer → AnswerNumbers
first_numbers old was (answered a) = answer_numbers 0 0 a.tokens.0 a.nullable
first_numbers old was (refused n r) = answer_numbers n r old was

-- refusal, place and the states of two words
pub data StateNumbers : Type 0 where
  state_numbers : ℕ → ℕ → List ℕ → StateNumbers

unfoldable pub walk_numbers : List ℕ → Reply (List ℕ) → StateNumbers
walk_numbers old (answered ss) = state_numbers 0 0 ss
walk_numbers old (refused n r) = state_numbers n r old

-- refusal, place, number of edges and graph words
pub data AddNumbers : Type 0 where
  add_numbers : ℕ → ℕ → ℕ → List ℕ → AddNumbers

unfoldable pub edge_numbers : ℕ → EdgeOutcome → AddNumbers
edge_numbers old (edge_outcome (answered count) graph) = add_numbers 0 0 count graph
edge_numbers old (edge_outcome (refused n r) graph) = add_numbers n r old graph

-- refusal, place, number of edges, graph words and scratch words
pub data TraceNumbers : Type 0 where
  trace_numbers : ℕ → ℕ → ℕ → List ℕ → List ℕ → TraceNumbers

unfoldable pub backtrace_numbers : ℕ → Outcome → TraceNumbers
backtrace_numbers old (outcome (answered count) graph scratch) = trace_numbers 0 0 count graph scratch
backtrace_numbers old (outcome (refused n r) graph scratch) = trace_numbers n r old graph scratch
