-- Refusals 16 and 17 of building states, in the order of time, or the states and edges. Words, refusals 1 to 8, 11 and 18 are not here.
use Rattle.std.specs.Prelude.{ℕ, suc, ◌+◌, ◌*◌, min, Bool, true, false, List, [], ◌∷◌, length, take, eqb, ltb}
use Rattle.std.proofs.Math.Option.{none, some}
use Rattle.lr1_base.specs.repr.Sizes.{record_limit}
use Rattle.lr1_base.specs.repr.Lists.{below, first?}
use Rattle.lr1_base.specs.repr.Meaning.{Production, Edge, Table}
use Rattle.lr1_states.specs.canonical.States.{Collected, built, halted, build, written, clashes}

-- the sum of a number for each
unfoldable pub sum {ℓ} : {A : Type ℓ} → (A → ℕ) → List A → ℕ
sum f [] = 0
sum f (x ∷ xs) = f x + sum f xs

-- records of a table with these states, edges aside
unfoldable pub records : Table → List (List ℕ) → ℕ
records T Rs = 1 + length T.nonterminals + length Rs + length T.productions + sum (λ (p : Production). length p.symbols) T.productions + sum (λ (S : List ℕ). length (written S)) Rs

-- as state k is found: 16 for state 128, else 17 where the records so far pass the room or 8,192
unfoldable pub stops_at : Table → ℕ → List (List ℕ) → ℕ → Bool
stops_at T room Rs k = elim (eqb k 128) [ true ↦ true | false ↦ ltb (min room record_limit) (records T (take (suc k) Rs)) ]

unfoldable pub number_of : ℕ → ℕ
number_of k = elim (eqb k 128) [ true ↦ 16 | false ↦ 17 ]

abbrev pub states_of : Collected → List (List ℕ)
states_of (built Rs es) = Rs
states_of (halted Rs) = Rs

pub data Outcome : Type 0 where
  refused : ℕ → Outcome
  full : List (List ℕ) → List (List Edge) → Outcome

-- then 17 for the edges or the list of conflicts, `words` long
unfoldable pub finish : Table → ℕ → ℕ → Collected → Outcome
finish T room words (halted Rs) = refused 16
finish T room words (built Rs es) =
    elim (ltb (min room record_limit) (records T Rs + sum (λ (ds : List Edge). length ds) es)) [
      | true ↦ refused 17
      | false ↦ elim (ltb words (5 * sum (λ (S : List ℕ). length (clashes T S)) Rs)) [ true ↦ refused 17 | false ↦ full Rs es ]
    ]

unfoldable pub answer : Table → ℕ → ℕ → Collected → Outcome
answer T room words b = elim (first? (stops_at T room (states_of b)) (below (length (states_of b)))) [ some k ↦ refused (number_of k) | none ↦ finish T room words b ]

unfoldable pub outcome : Table → ℕ → ℕ → ℕ → Outcome
outcome T start room words = answer T room words (build T start)
