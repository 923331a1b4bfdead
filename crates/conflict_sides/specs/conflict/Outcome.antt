-- What `classify` answers and leaves: answer, scratch words, words of the two example buffers.
use Rattle.std.specs.Prelude.{ℕ, zero, suc, Bool, true, false, ◌&&◌, List, length, ◌==◌, nat_le, nat_lt}
use Rattle.std.proofs.Math.Option.{Option, none, some}
use Rattle.lr1_base.specs.repr.Sizes.{classify_scratch, example_room}
use Rattle.lr1_base.specs.words.Lent.{in_front, zeroed}
use Rattle.lr1_base.specs.repr.Meaning.{Production, Table}
use Rattle.table.specs.Checked.{Checked, Accepted, Refused as NotAccepted}
use Rattle.table.specs.Decoded.{meaning}
use Rattle.table.specs.Refusals.{check_of}
use Rattle.enumerator.specs.example.Example.{example_words}
use Rattle.conflict_sides.specs.declared.conflict.Conflict.{Conflict}
use Rattle.conflict_sides.specs.conflict.Numbers.{number_of_class, values_of_class, Reading, classed, refused}
use Rattle.conflict_sides.specs.conflict.Sides.{Gathered, sides, halted, gather}
use Rattle.conflict_sides.specs.conflict.Judge.{Example, Judged, judged}

pub data Outcome : Type 0 where
  outcome : Reading → List ℕ → List ℕ → List ℕ → Outcome

-- the action's terminal or production in range; the terminal of a shift too, though only precedence reads it
unfoldable pub operand_fits : Table → ℕ → ℕ → Bool
operand_fits T zero operand = nat_lt operand T.terminals
operand_fits T (suc zero) operand = nat_lt operand (length T.productions)
operand_fits T (suc (suc k)) operand = false

-- refusal 9 for all of a conflict but its token
unfoldable pub place_is_fit : Table → Conflict → Bool
place_is_fit T c = nat_lt c.state.0 (length T.states) && (nat_lt c.production.0 (length T.productions) && operand_fits T c.action c.operand)

unfoldable pub conflict_fits : Table → Conflict → Bool
conflict_fits T c = place_is_fit T c && nat_le c.token T.terminals

-- refusal 10: shift with the end token
unfoldable pub shifts_end : Table → Conflict → Bool
shifts_end T c = c.action == 0 && c.token == T.terminals

-- an example at the front of its buffer, or none
unfoldable pub shown : List Production → Option Example → List ℕ → List ℕ
shown ps none buffer = buffer
shown ps (some ls) buffer = in_front (example_words ps ls) buffer

-- over W words of scratch: 11 asks for them, and they are zeroed
module _ (W : ℕ) where
  unfoldable pub judged_with : List Production → ℕ → ℕ → List ℕ → List ℕ → List ℕ → Judged → Outcome
  judged_with ps m n scratch action reduce j =
      outcome (classed (number_of_class j.class) (values_of_class j.class) m n) (zeroed W scratch) (shown ps j.action action) (shown ps j.reduce reduce)

  -- judge what was gathered; 12 to 14 zero the scratch and change nothing else
  unfoldable pub gathered_with : Table → Conflict → List ℕ → List ℕ → List ℕ → Gathered → Outcome
  gathered_with T c scratch action reduce (halted n) = outcome (refused n 0) (zeroed W scratch) action reduce
  gathered_with T c scratch action reduce (sides as' m rs n) = judged_with T.productions m n scratch action reduce (judged T c as' rs)

  -- refusals 9 to 11 change nothing
  unfoldable pub classify_in_with : Conflict → List ℕ → List ℕ → List ℕ → Table → Outcome
  classify_in_with c scratch action reduce T = elim (conflict_fits T c) [
    | false ↦ outcome (refused 9 0) scratch action reduce
    | true ↦ elim (shifts_end T c) [
      | true ↦ outcome (refused 10 0) scratch action reduce
      | false ↦ elim (nat_le W (length scratch) && (nat_le example_room (length action) && nat_le example_room (length reduce))) [
        | false ↦ outcome (refused 11 0) scratch action reduce
        | true ↦ gathered_with T c scratch action reduce (gather T c)
      ]
    ]
  ]

  unfoldable pub classify_by_with : List ℕ → Conflict → List ℕ → List ℕ → List ℕ → Checked → Outcome
  classify_by_with t c scratch action reduce (NotAccepted n r) = outcome (refused n r) scratch action reduce
  classify_by_with t c scratch action reduce Accepted = classify_in_with c scratch action reduce (meaning t)

  -- table, conflict, scratch, the action's buffer, the reduce's
  unfoldable pub classify_with : List ℕ → Conflict → List ℕ → List ℕ → List ℕ → Outcome
  classify_with t c scratch action reduce = classify_by_with t c scratch action reduce (check_of t)

-- over those of docs/RULES.md, "Lent words"; `classify_of` is `classify`
abbrev pub judged_outcome : List Production → ℕ → ℕ → List ℕ → List ℕ → List ℕ → Judged → Outcome
judged_outcome = judged_with classify_scratch

abbrev pub gathered_outcome : Table → Conflict → List ℕ → List ℕ → List ℕ → Gathered → Outcome
gathered_outcome = gathered_with classify_scratch

abbrev pub classified_in : Conflict → List ℕ → List ℕ → List ℕ → Table → Outcome
classified_in = classify_in_with classify_scratch

abbrev pub classify_by : List ℕ → Conflict → List ℕ → List ℕ → List ℕ → Checked → Outcome
classify_by = classify_by_with classify_scratch

abbrev pub classify_of : List ℕ → Conflict → List ℕ → List ℕ → List ℕ → Outcome
classify_of = classify_with classify_scratch
