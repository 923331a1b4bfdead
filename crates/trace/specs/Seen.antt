-- How many pairs of a state and a nonterminal are not entered yet: the measure of tracing.
use Rattle.std.specs.Prelude.{ℕ, zero, suc, true, false, List}
use Rattle.lr1_base.specs.repr.Lists.{mem}

-- of the numbers below k those that are not in the list
unfoldable pub free : ℕ → List ℕ → ℕ
free zero seen = 0
free (suc k) seen = elim (mem k seen) [ true ↦ free k seen | false ↦ suc (free k seen) ]

unfoldable pub unentered : List ℕ → ℕ
unentered seen = free 4096 seen
