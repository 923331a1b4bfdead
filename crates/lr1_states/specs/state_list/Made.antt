-- The states found while `build` of specs/canonical/States goes on, and the one predicate that ties them to the words.
use Rattle.std.specs.Prelude.{◌≡◌, ℕ, ◌+◌, ◌<◌, false, List, [], length, get_or, slice_index, slice_index_or}
use Rattle.lr1_base.specs.repr.Meaning.{Symbol, Table}
use Rattle.lr1_states.specs.canonical.States.{start_state, nothing?, moved, goto}
use Rattle.lr1_states.specs.stored_item.Stored.{packed}
use Rattle.lr1_states.specs.state_list.Kept.{state_in, Begun}

-- state 0, or the goto of one that was found, over a symbol that some item has its cursor at
pub data Made (T : Table) (start : ℕ) : List ℕ → Type 0 where
  first : Made T start (start_state T start)
  next : {S : List ℕ} (X : Symbol) → Made T start S → nothing? (moved T X S) ≡ false → Made T start (goto T X S)

-- the words hold the states Rs: their items one state behind the other, from the front
pub record Holds (T : Table) (start : ℕ) (ws bs : List ℕ) (Rs : List (List ℕ)) : Type 0 where
  pub begun : Begun ws bs (length Rs)
  pub front : get_or bs 0 0 ≡ 0
  pub made : (k : ℕ) → k < length Rs → Made T start (slice_index_or Rs k [])
  pub counts : (k : ℕ) → k < length Rs → slice_index bs (k + 1) ≡ slice_index bs k + length (packed (slice_index_or Rs k []))
  pub is : (k : ℕ) → k < length Rs → state_in ws bs k ≡ packed (slice_index_or Rs k [])
