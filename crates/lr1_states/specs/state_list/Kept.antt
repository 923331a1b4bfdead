-- The states found, in words: their items one state behind the other (specs/stored_item/Stored), and where each begins.
use Rattle.std.specs.Prelude.{◌≡◌, ℕ, suc, ◌+◌, ◌-◌, ◌*◌, ◌<◌, ◌≤◌, true, false, List, [], ◌∷◌, map, length, replicate, slice_index, slice_set}
use Rattle.lr1_base.specs.repr.Sizes.{record_limit, state_limit, item_limit}
use Rattle.lr1_base.specs.repr.Lists.{below}
use Rattle.lr1_states.specs.stored_item.Stored.{Entry, entries, put_entry, is_same_kernel}

-- a state flat again: each set at its place
unfoldable pub puts : List ℕ → List Entry → List ℕ
puts S [] = S
puts S (e ∷ es) = puts (slice_set S e.place e.set) es

unfoldable pub unpacked : List Entry → List ℕ
unpacked es = puts (replicate item_limit 0) es

-- items put from number m on
unfoldable pub put_all : List ℕ → ℕ → List Entry → List ℕ
put_all ws m [] = ws
put_all ws m (e ∷ es) = put_all (put_entry ws m e.place e.set) (m + 1) es

-- state k has the items from number `bs k` up to `bs (k + 1)`
unfoldable pub state_in : List ℕ → List ℕ → ℕ → List Entry
state_in ws bs k = entries ws (slice_index bs k) (slice_index bs (k + 1) - slice_index bs k)

unfoldable pub states_in : List ℕ → List ℕ → ℕ → List (List Entry)
states_in ws bs n = map (state_in ws bs) (below n)

-- n states have room
pub record Begun (ws bs : List ℕ) (n : ℕ) : Type 0 where
  pub room : record_limit * 5 ≤ length ws
  pub long : length bs ≡ suc state_limit
  pub few : n ≤ state_limit
  pub rises : (k : ℕ) → k < n → slice_index bs k ≤ slice_index bs (k + 1)
  pub ends : (k : ℕ) → k < n → slice_index bs (k + 1) ≤ record_limit

-- the first state with these items past index 0, the number of the next one where there is none
unfoldable pub kernel_place : List Entry → List (List Entry) → ℕ
kernel_place ks [] = 0
kernel_place ks (es ∷ ess) = elim (is_same_kernel es ks) [ true ↦ 0 | false ↦ suc (kernel_place ks ess) ]
