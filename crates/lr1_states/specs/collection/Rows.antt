-- All states found: their edges in words, and where each state's begin.
use Rattle.std.specs.Prelude.{Result, Ok, Err, ℕ, ◌+◌, ◌-◌, ◌≤◌, ◌<◌, ◌≡◌, List, map, length, get_or}
use Rattle.lr1_base.specs.repr.Lists.{below}
use Rattle.lr1_base.specs.repr.Meaning.{Edge, Table}
use Rattle.lr1_states.specs.state_list.Made.{Holds}
use Rattle.lr1_states.specs.goto.Steps.{Found, halts, found}
use Rattle.lr1_states.specs.goto.Search.{refusal_of}
use Rattle.lr1_states.specs.transitions.Taking.{edges_in}
use Rattle.lr1_states.specs.declared.goto.Halt.{Halt}

-- state k has the edges from number `es k` up to `es (k + 1)`
unfoldable pub row_in : List ℕ → List ℕ → ℕ → List Edge
row_in E es k = edges_in E (get_or es k 0) (get_or es (k + 1) 0 - get_or es k 0)

unfoldable pub rows_in : List ℕ → List ℕ → ℕ → List (List Edge)
rows_in E es n = map (row_in E es) (below n)

pub record FoundAll (T : Table) (start : ℕ) (w : Found) (ws bs E es : List ℕ) (n : ℕ) : Type 0 where
  pub Rs : List (List ℕ)
  pub is : w ≡ found Rs (rows_in E es n)
  pub many : n ≡ length Rs
  pub holds : Holds T start ws bs Rs
  pub front : get_or es 0 0 ≡ 0
  pub rises : (k : ℕ) → k < n → get_or es k 0 ≤ get_or es (k + 1) 0
  pub few : get_or es n 0 ≤ 12160

unfoldable pub FoundAs : Table → ℕ → Found → List ℕ → List ℕ → List ℕ → List ℕ → ℕ → Result (Unit {0}) Halt → Type 0
FoundAs T start w ws bs E es n (Err h) = w ≡ halts (refusal_of h)
FoundAs T start w ws bs E es n (Ok u) = FoundAll T start w ws bs E es n
