-- From which state an item was last traced on: a byte for each item, one more than the state's number or 0, two to a word.
use Rattle.std.specs.Prelude.{◌≡◌, ℕ, ◌+◌, ◌*◌, ◌/◌, ◌%◌, ◌<◌, true, false, List, length, ◌==◌, slice_index}
use Rattle.lr1_base.specs.repr.Sizes.{index_limit, edge_limit}
use Rattle.lr1_base.specs.repr.Meaning.{Item, Table, ItemFits}
use Rattle.trace.specs.Traced.{Trace}
use Rattle.trace.specs.Met.{ItemMet}
use Rattle.trace.specs.Held.{Held}

abbrev pub stamp_words : ℕ
stamp_words = 1088

-- the stamp of the item whose code is c: the low byte of an even code's word, the high byte of an odd one's
unfoldable pub stamp_read_at : List ℕ → ℕ → ℕ
stamp_read_at ws c = elim (c % 2 == 0) [ true ↦ slice_index ws (c / 2) % 256 | false ↦ slice_index ws (c / 2) / 256 ]

-- an item that has a state's stamp was traced on from it
pub record Stamped (T : Table) (ss : List ℕ) (st : Trace) : Type 0 where
  pub met : (i : Item) → ItemFits T i → (s : ℕ) → stamp_read_at ss (i.production * index_limit + i.index) ≡ s + 1 → ItemMet T s i st

-- what the words of a reduce trace at work hold
pub record Reducing (T : Table) (ws fs vs ss : List ℕ) (st : Trace) : Type 0 where
  pub held : Held T ws fs vs st
  pub stamped : Stamped T ss st

abbrev pub Reduces : Table → (Trace → Trace) → List ℕ → List ℕ → List ℕ → List ℕ → List ℕ → List ℕ → List ℕ → List ℕ → Type 0
Reduces T step ws fs vs ss ws' fs' vs' ss' = (st : Trace) → Reducing T ws fs vs ss st → Reducing T ws' fs' vs' ss' (step st)

abbrev pub ReduceExceeds : Table → (Trace → Trace) → List ℕ → List ℕ → List ℕ → List ℕ → Type 0
ReduceExceeds T step ws fs vs ss = (st : Trace) → Reducing T ws fs vs ss st → edge_limit < length (step st).edges
