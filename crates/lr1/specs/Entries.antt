-- What the public entries answer, refusals included. A table is refused by rows 1 to 8 first; nothing above that speaks of words but through `meaning`.
use Rattle.std.specs.Prelude.{ℕ, suc, ◌^◌, Bool, true, false, ◌&&◌, List, Result, Ok, Err, length, ltb}
use Rattle.lr1_base.specs.repr.Reply.{Reply, answered, refused, number_of, place_of}
use Rattle.lr1_base.specs.repr.Meaning.{Table}
use Rattle.lr1_base.specs.repr.Listed.{listed, list_is_fit}
use Rattle.table.specs.Checked.{Checked, Accepted, Refused}
use Rattle.table.specs.Decoded.{meaning}
use Rattle.table.specs.Refusals.{check_of}
use Rattle.first.specs.First.{FIRST, followed}
use Rattle.lr1_base.specs.declared.repr.refusals.Refusal.{Refusal}
use Rattle.lr1_base.specs.declared.lookahead.TokenSet.{TokenSet}
use Rattle.first.specs.declared.Answer.{Answer}
use Rattle.state_graph.specs.declared.StateSet.{StateSet}
use Rattle.state_graph.specs.Walk.{traced_back}
use Rattle.state_graph.specs.States.{states_in}

-- an answer over the table's meaning, unless the check refuses
unfoldable pub over_table {ℓ} : {A : Type ℓ} → (ℕ → ℕ → A) → (Table → A) → List ℕ → Checked → A
over_table refuse answer t (Refused n r) = refuse n r
over_table refuse answer t Accepted = answer (meaning t)

-- the symbols of a lent list are whole and in range; else refusal 9
unfoldable pub symbols_fit : Table → List ℕ → Bool
symbols_fit T ws = list_is_fit (length T.nonterminals) T.terminals ws

-- a set holds tokens of the table alone; else refusal 9
unfoldable pub tokens_fit : Table → ℕ → Bool
tokens_fit T s = ltb s (2 ^ suc T.terminals)

unfoldable pub first0_answer : List ℕ → Table → Reply Answer
first0_answer ws T = elim (symbols_fit T ws) [ true ↦ answered (FIRST T (listed ws)) | false ↦ refused 9 0 ]

unfoldable pub first0_of : List ℕ → List ℕ → Reply Answer
first0_of t ws = over_table refused (first0_answer ws) t (check_of t)

-- a list that a token of the lookahead follows
unfoldable pub first1_answer : List ℕ → ℕ → Table → Reply TokenSet
first1_answer ws ahead T = elim (symbols_fit T ws && tokens_fit T ahead) [
  | true ↦ answered (record { 0 = followed (FIRST T (listed ws)) ahead })
  | false ↦ refused 9 0
]

unfoldable pub first1_of : List ℕ → List ℕ → ℕ → Reply TokenSet
first1_of t ws ahead = over_table refused (first1_answer ws ahead) t (check_of t)

-- what a walk answers: the states, ascending, or a refusal and its place
unfoldable pub walk_of : Result StateSet Refusal → Reply (List ℕ)
walk_of (Ok s) = answered (states_in s.low s.high)
walk_of (Err e) = refused (number_of e) (place_of e)

unfoldable pub trace_back_answer : ℕ → List ℕ → Table → Reply (List ℕ)
trace_back_answer s ws T = elim (ltb s (length T.states) && symbols_fit T ws) [ true ↦ answered (traced_back T s (listed ws)) | false ↦ refused 9 0 ]

unfoldable pub trace_back_of : List ℕ → ℕ → List ℕ → Reply (List ℕ)
trace_back_of t s ws = over_table refused (trace_back_answer s ws) t (check_of t)
