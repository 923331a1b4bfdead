-- `outcome` of specs/canonical/Outcome as code goes: a state that 16 or 17 refuses ends the search where it is found. `outcome_steps` of proofs/goto/Steps says that
-- nothing else changes.
use Rattle.std.specs.Prelude.{ℕ, zero, suc, true, false, List, [], ◌∷◌, ◌++◌, length, nat_lt, slice_index_or}
use Rattle.lr1_base.specs.repr.Meaning.{Symbol, Edge, Table}
use Rattle.lr1_states.specs.canonical.States.{moved, nothing?, goto, place, tried, start_state, built}
use Rattle.lr1_states.specs.canonical.Outcome.{stops_at, number_of, Outcome, refused, finish}

-- over one symbol: no edge, a refusal, or the edge's target and the states then
pub data Reach : Type 0 where
  nowhere : Reach
  stops : ℕ → Reach
  reach : ℕ → List (List ℕ) → Reach

unfoldable pub add_to : Table → ℕ → List ℕ → List (List ℕ) → Reach
add_to T room C Rs = elim (nat_lt (place C Rs) (length Rs)) [
  | true ↦ reach (place C Rs) Rs
  | false ↦ elim (stops_at T room (Rs ++ C ∷ []) (length Rs)) [ true ↦ stops (number_of (length Rs)) | false ↦ reach (place C Rs) (Rs ++ C ∷ []) ]
]

unfoldable pub goto_to : Table → ℕ → List ℕ → List (List ℕ) → Symbol → Reach
goto_to T room S Rs X = elim (nothing? (moved T X S)) [ true ↦ nowhere | false ↦ add_to T room (goto T X S) Rs ]

-- one state taken: a refusal, or the states then and its edges
pub data Told : Type 0 where
  stopped : ℕ → Told
  told : List (List ℕ) → List Edge → Told

unfoldable pub behind : List Edge → Told → Told
behind ds (stopped n) = stopped n
behind ds (told Rs es) = told Rs (ds ++ es)

unfoldable pub take_to : Table → ℕ → List ℕ → List (List ℕ) → List Symbol → Told
take_to T room S Rs [] = told Rs []
take_to T room S Rs (X ∷ Xs) = elim (goto_to T room S Rs X) [
  | nowhere ↦ take_to T room S Rs Xs
  | stops n ↦ stopped n
  | reach t Qs ↦ behind (record { symbol = X; target = t } ∷ []) (take_to T room S Qs Xs)
]

-- all: a refusal, or the states and the edges of each
pub data Found : Type 0 where
  halts : ℕ → Found
  found : List (List ℕ) → List (List Edge) → Found

unfoldable pub collect_to : ℕ → Table → ℕ → List (List ℕ) → List (List Edge) → Found
collect_to zero T room Rs es = found Rs es
collect_to (suc f) T room Rs es =
    elim (nat_lt (length es) (length Rs)) [
      | true ↦ elim (take_to T room (slice_index_or Rs (length es) []) Rs (tried T)) [ stopped n ↦ halts n | told Qs ds ↦ collect_to f T room Qs (es ++ ds ∷ []) ]
      | false ↦ found Rs es
    ]

unfoldable pub found_to : Table → ℕ → ℕ → Found
found_to T start room = elim (stops_at T room (start_state T start ∷ []) 0) [ true ↦ halts (number_of 0) | false ↦ collect_to 129 T room (start_state T start ∷ []) [] ]

unfoldable pub finish_to : Table → ℕ → ℕ → Found → Outcome
finish_to T room words (halts n) = refused n
finish_to T room words (found Rs es) = finish T room words (built Rs es)
