-- Items as codes, production * 17 + index: those of a state marked, and those wanted.
use Rattle.std.specs.Prelude.{◌≡◌, ℕ, ◌+◌, ◌*◌, ◌/◌, ◌%◌, Bool, ◌&&◌, List, [], ◌∷◌, length}
use Rattle.lr1_base.specs.repr.Sizes.{index_limit}
use Rattle.lr1_base.specs.repr.Meaning.{Item, Table}
use Rattle.lr1_base.specs.repr.Listed.{listed}
use Rattle.lr1_base.specs.repr.Packed.{Packed, symbol_words, productions_in}
use Rattle.lr1_base.specs.item.Items.{symbol_sets}
use Rattle.lr1_base.specs.bits.Bits.{bit_at, bit_put}
use Rattle.conflict_sides.specs.conflict.Items.{is_terminal}
use Rattle.lr1_base.specs.item.Places.{item_place}

-- the packed words hold the table's productions
pub record Grammar (T : Table) (g : List ℕ) (productions : ℕ) : Type 0 where
  pub packed : Packed g productions
  pub same : productions_in g productions ≡ T.productions
  pub many : productions ≡ length T.productions

-- the flag of each item set
unfoldable pub marked : List Item → List ℕ → List ℕ
marked [] ws = ws
marked (i ∷ is) ws = marked is (bit_put ws (item_place i))

-- the code's item shifts the token, by the packed words
unfoldable pub shifts_code : List ℕ → ℕ → ℕ → Bool
shifts_code g token c = is_terminal token (symbol_sets (listed (symbol_words g (c / index_limit))) (c % index_limit)).cursor

-- and is marked
unfoldable pub wanted : List ℕ → List ℕ → ℕ → ℕ → Bool
wanted g marks token c = shifts_code g token c && bit_at marks c
