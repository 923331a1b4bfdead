-- The tokens that each production's complete item reduces with, in a list.
use Rattle.std.specs.Prelude.{◌≡◌, ℕ, ◌*◌, ◌<◌, List, take, slice_index}
use Rattle.lr1_base.specs.repr.Sizes.{index_limit}
use Rattle.lr1_base.specs.repr.Meaning.{Table}
use Rattle.lr1_states.specs.canonical.States.{reduces}

-- of the productions below p, for a state that stands flat
abbrev pub ReducedAs : Table → ℕ → List ℕ → List ℕ → ℕ → Type 0
ReducedAs T productions state r p = (q : ℕ) → q < p → slice_index r q ≡ reduces T (take (index_limit * productions) state) q
