-- The counts that the code of the machine keeps: how often each nonterminal stands on the walk (`used_of` of specs/trials/Machine), so that a step need not go through it.
use Rattle.std.specs.Prelude.{◌≡◌, ℕ, ◌<◌, List, [], ◌∷◌, length, slice_index}
use Rattle.lr1_base.specs.repr.Lists.{occurrences}

-- a count for each nonterminal (at most 32)
pub record Counted (us ms : List ℕ) : Type 0 where
  pub size : length ms ≡ 32
  pub times : (n : ℕ) → n < 32 → slice_index ms n ≡ occurrences n us

-- the walk of a stack: its edges but the last
unfoldable pub walk_of : List ℕ → List ℕ
walk_of [] = []
walk_of (e ∷ st) = st
