-- The edges found, in words: one each, symbol * 128 + target, those of a state one behind the other as tried; and what taking a state leaves.
use Rattle.std.specs.Prelude.{ℕ, ◌+◌, ◌-◌, ◌*◌, ◌/◌, ◌%◌, ◌≤◌, ◌<◌, true, false, Result, Ok, Err, ◌≡◌, List, map, length, get_or, set, nat_lt}
use Rattle.lr1_base.specs.repr.Sizes.{state_limit}
use Rattle.lr1_base.specs.repr.Lists.{up_from}
use Rattle.lr1_base.specs.repr.Meaning.{Symbol, nonterminal, terminal, Edge, Table}
use Rattle.lr1_states.specs.state_list.Made.{Holds}
use Rattle.lr1_states.specs.goto.Steps.{Reach, nowhere, stops, reach, Told, stopped, told}
use Rattle.lr1_states.specs.goto.Search.{Keeps, refusal_of}
use Rattle.lr1_states.specs.declared.goto.Halt.{Halt}

-- the symbol of a number (specs/item/Cursor of lr1_base)
unfoldable pub symbol_of_code : ℕ → Symbol
symbol_of_code c = elim (nat_lt c 32) [ true ↦ nonterminal c | false ↦ terminal (c - 32) ]

unfoldable pub edge_of : ℕ → Edge
edge_of w = record { symbol = symbol_of_code (w / state_limit); target = w % state_limit }

-- n edges from number m on
unfoldable pub edges_in : List ℕ → ℕ → ℕ → List Edge
edges_in E m n = map (λ i. edge_of (get_or E i 0)) (up_from m n)

-- one symbol tried, and the step did not stop: w is the step, m edges of before
pub data TookOne (T : Table) (start : ℕ) (Rs : List (List ℕ)) (w : Reach) (c : ℕ) (ws bs E E' : List ℕ) (m q m' : ℕ) : Type 0 where
  passed : w ≡ nowhere → q ≡ length Rs → Holds T start ws bs Rs → E' ≡ E → m' ≡ m → TookOne T start Rs w c ws bs E E' m q m'
  reached : (t : ℕ) (Qs : List (List ℕ)) → w ≡ reach t Qs → q ≡ length Qs → t < q → Holds T start ws bs Qs → Keeps Rs Qs → E' ≡ set E m (c * state_limit + t) → m' ≡ m + 1 → TookOne T start Rs w c ws bs E E' m q m'

unfoldable pub Tried : Table → ℕ → List (List ℕ) → Reach → ℕ → List ℕ → List ℕ → List ℕ → List ℕ → ℕ → ℕ → ℕ → Result (Unit {0}) Halt → Type 0
Tried T start Rs w c ws bs E E' m q m' (Err h) = w ≡ stops (refusal_of h)
Tried T start Rs w c ws bs E E' m q m' (Ok u) = TookOne T start Rs w c ws bs E E' m q m'

-- a state taken
pub record TookAll (T : Table) (start : ℕ) (Rs : List (List ℕ)) (w : Told) (ws bs E E' : List ℕ) (m q m' : ℕ) : Type 0 where
  pub Qs : List (List ℕ)
  pub is : w ≡ told Qs (edges_in E' m (m' - m))
  pub many : q ≡ length Qs
  pub holds : Holds T start ws bs Qs
  pub keeps : Keeps Rs Qs
  pub low : m ≤ m'
  pub high : m' ≤ m + 95
  pub same : (i : ℕ) → i < m → get_or E' i 0 ≡ get_or E i 0

unfoldable pub TakenAs : Table → ℕ → List (List ℕ) → Told → List ℕ → List ℕ → List ℕ → List ℕ → ℕ → ℕ → ℕ → Result (Unit {0}) Halt → Type 0
TakenAs T start Rs w ws bs E E' m q m' (Err h) = w ≡ stopped (refusal_of h)
TakenAs T start Rs w ws bs E E' m q m' (Ok u) = TookAll T start Rs w ws bs E E' m q m'
