-- State 0 stored, or refused.
use Rattle.std.specs.Prelude.{ℕ, ◌+◌, min, Bool, true, false, ◌≡◌, List, [], ◌∷◌, length}
use Rattle.lr1_base.specs.repr.Sizes.{record_limit}
use Rattle.lr1_base.specs.repr.Meaning.{Production, Table}
use Rattle.lr1_states.specs.canonical.States.{start_state}
use Rattle.lr1_states.specs.canonical.Outcome.{sum, stops_at}
use Rattle.lr1_states.specs.state_list.Made.{Holds}

-- the numbers that a search gets are the table's and the output's
pub record Counted (T : Table) (room nonterminals fixed limit : ℕ) : Type 0 where
  pub nonterminals_are : nonterminals ≡ length T.nonterminals
  pub fixed_is : fixed ≡ 1 + length T.nonterminals + length T.productions + sum (λ (p : Production). length p.symbols) T.productions
  pub limit_is : limit ≡ min room record_limit

pub record Started (T : Table) (start room : ℕ) (ws bs : List ℕ) (r : Bool) : Type 0 where
  pub full : r ≡ false → stops_at T room (start_state T start ∷ []) 0 ≡ true
  pub fits : r ≡ true → stops_at T room (start_state T start ∷ []) 0 ≡ false
  pub holds : r ≡ true → Holds T start ws bs (start_state T start ∷ [])
