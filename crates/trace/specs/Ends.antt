-- Which items have a suffix that may derive the empty string, as the code keeps them while it traces: a flag for each item, at production * 17 + index, 64 to a word.
use Rattle.std.specs.Prelude.{◌≡◌, ℕ, ◌+◌, ◌*◌, ◌<◌, ◌≤◌, false, List, length}
use Rattle.lr1_base.specs.repr.Sizes.{index_limit, item_flags}
use Rattle.lr1_base.specs.repr.Meaning.{Item, Table, ItemFits}
use Rattle.lr1_base.specs.bits.Bits.{bit_at}
use Rattle.first.specs.First.{nullable}
use Rattle.trace.specs.Traced.{suffix_of}

-- the items whose place is below k; none is set from there on
pub record EndsTo (T : Table) (ends : List ℕ) (k : ℕ) : Type 0 where
  pub long : length ends ≡ item_flags
  pub exact : (i : Item) → ItemFits T i → i.production * index_limit + i.index < k → bit_at ends (i.production * index_limit + i.index) ≡ nullable T (suffix_of T i)
  pub clear : (c : ℕ) → k ≤ c → bit_at ends c ≡ false

-- all
pub record Ends (T : Table) (ends : List ℕ) : Type 0 where
  pub long : length ends ≡ item_flags
  pub exact : (i : Item) → ItemFits T i → bit_at ends (i.production * index_limit + i.index) ≡ nullable T (suffix_of T i)
