-- The states of a table as the search leaves them: items and edges one state behind the other, and where each state's begin.
use Rattle.std.specs.Prelude.{ℕ, ◌+◌, ◌*◌, ◌/◌, ◌%◌, ◌≤◌, ◌<◌, ◌≡◌, List, [], map, length, get_or}
use Rattle.lr1_base.specs.repr.Sizes.{index_limit, record_limit, state_limit}
use Rattle.lr1_base.specs.repr.Meaning.{Item, Table, state_at}
use Rattle.table_rewrite.specs.spelling.Spelled.{item_lists, edge_lists}
use Rattle.lr1_states.specs.stored_item.Stored.{Entry}
use Rattle.lr1_states.specs.state_list.Kept.{state_in}
use Rattle.lr1_states.specs.collection.Rows.{row_in}

-- list k of at most 128 has the elements from number `bs k` up to `bs (k + 1)`
pub record BeginsOf {ℓ} {A : Type ℓ} (xss : List (List A)) (bs : List ℕ) : Type ℓ where
  pub few : length xss ≤ state_limit
  pub front : get_or bs 0 0 ≡ 0
  pub next : (k : ℕ) → k < length xss → get_or bs (k + 1) 0 ≡ get_or bs k 0 + length (get_or xss k [])

-- the item of an entry
abbrev pub item_of : Entry → Item
item_of e = record { production = e.place / index_limit; index = e.place % index_limit }

pub record ItemsIn (U : Table) (ws bs : List ℕ) : Type 0 where
  pub begins : BeginsOf (item_lists U) bs
  pub room : record_limit * 5 ≤ length ws
  pub is : (k : ℕ) → k < length U.states → map item_of (state_in ws bs k) ≡ (state_at U k).items

pub record EdgesIn (U : Table) (E es : List ℕ) : Type 0 where
  pub begins : BeginsOf (edge_lists U) es
  pub is : (k : ℕ) → k < length U.states → row_in E es k ≡ (state_at U k).edges
