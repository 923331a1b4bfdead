-- An item as one number: its place among all items, and the item at a place.
use Rattle.std.specs.Prelude.{ℕ, ◌+◌, ◌*◌, ◌/◌, ◌%◌}
use Rattle.lr1_base.specs.repr.Sizes.{index_limit}
use Rattle.lr1_base.specs.repr.Meaning.{Item}

unfoldable pub item_place : Item → ℕ
item_place i = i.production * index_limit + i.index

unfoldable pub item_at_place : ℕ → Item
item_at_place c = record { production = c / index_limit; index = c % index_limit }
