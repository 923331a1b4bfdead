-- A state's shift items by places, 16 indexes for each production in their order: those that are left from a place on. `left_all_lem` of proofs/shift_items/Left: from 0 on they are
-- `shift_items` of error.
use Rattle.std.specs.Prelude.{◌≡◌, ℕ, ◌*◌, ◌/◌, ◌%◌, ◌<◌, Bool, ◌&&◌, List, map, length, drop, slice_index}
use Rattle.lr1_base.specs.repr.Sizes.{production_limit, symbol_limit, item_flags}
use Rattle.lr1_base.specs.repr.Lists.{below, keep, some?}
use Rattle.lr1_base.specs.repr.Meaning.{Item, Table, ItemFits, state_at}
use Rattle.trace_graph.specs.Graph.{same_item}
use Rattle.conflict_sides.specs.conflict.Items.{shifts_token}
use Rattle.lr1_base.specs.bits.Bits.{bit_at}
use Rattle.lr1_base.specs.declared.item.Item.{Item as ItemOf}
use Rattle.conflict_sides.specs.shift_items.Order.{Ordered}
use Rattle.conflict_sides.specs.shift_items.Codes.{Grammar, wanted}
use Rattle.lr1_base.specs.item.Places.{item_place}

-- what the shift items of state s are read from
pub record Marked (T : Table) (s : ℕ) (g : List ℕ) (n : ℕ) (order marks : List ℕ) : Type 0 where
  pub grammar : Grammar T g n
  pub long : length order ≡ production_limit
  pub ordered : Ordered T.productions n order
  pub flags : length marks ≡ item_flags
  pub items : (i : Item) → ItemFits T i → bit_at marks (item_place i) ≡ some? (same_item i) (state_at T s).items

-- a shift item of state s
unfoldable pub is_shift_item : Table → ℕ → ℕ → Item → Bool
is_shift_item T s token i = shifts_token T.productions token i && some? (same_item i) (state_at T s).items

unfoldable pub place_item : List ℕ → ℕ → Item
place_item order at = record { production = slice_index order (at / symbol_limit); index = at % symbol_limit }

-- those from a place on, of n productions
unfoldable pub items_left : Table → ℕ → ℕ → List ℕ → ℕ → ℕ → List Item
items_left T s token order n at = keep (is_shift_item T s token) (map (place_item order) (drop at (below (n * symbol_limit))))

-- the same by the words alone (`wanted_left` of proofs/shift_items/Left): the items that are marked and shift the token
unfoldable pub items_wanted : List ℕ → List ℕ → ℕ → List ℕ → ℕ → ℕ → List Item
items_wanted g marks token order n at = keep (λ i. wanted g marks token (item_place i)) (map (place_item order) (drop at (below (n * symbol_limit))))

-- words from which the items of n productions can be read
pub record Readable (n : ℕ) (order marks : List ℕ) : Type 0 where
  pub long : length order ≡ production_limit
  pub inside : (j : ℕ) → j < n → slice_index order j < n
  pub flags : length marks ≡ item_flags

-- the code's item
abbrev pub meant : ItemOf → Item
meant i = record { production = i.production; index = i.index }
