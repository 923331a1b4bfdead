-- A set of states in two words.
use Rattle.std.specs.Prelude.{ℕ, ◌-◌, Bool, true, false, List, ltb}
use Rattle.lr1_base.specs.repr.Lists.{below, keep}
use Rattle.lr1_base.specs.lookahead.Tokens.{has}

unfoldable pub has_state : ℕ → ℕ → ℕ → Bool
has_state low high s = elim (ltb s 64) [ true ↦ has low s | false ↦ has high (s - 64) ]

-- its states, ascending
unfoldable pub states_in : ℕ → ℕ → List ℕ
states_in low high = keep (has_state low high) (below 128)
