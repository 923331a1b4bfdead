-- Sets of tokens (docs/RULES.md, "Token sets"). Tokens are the terminals 0 to T - 1 and T, the end of input. A set is a number, token k its bit k.
use Rattle.std.specs.Prelude.{ℕ, suc, ◌-◌, ◌/◌, ◌%◌, ◌^◌, ◌≡◌, Bool, true, false, List, eqb, ltb}
use Rattle.std.specs.Int.Bits.{bit_and, bit_or}
use Rattle.lr1_base.specs.repr.Lists.{below, keep}

-- token k is in the set
unfoldable pub has : ℕ → ℕ → Bool
has s k = eqb (s / 2 ^ k % 2) 1

-- the set of one token
unfoldable pub single : ℕ → ℕ
single k = 2 ^ k

unfoldable pub union : ℕ → ℕ → ℕ
union a b = bit_or a b

unfoldable pub meet : ℕ → ℕ → ℕ
meet a b = bit_and a b

-- the set without token k
unfoldable pub without : ℕ → ℕ → ℕ
without s k = elim (has s k) [ true ↦ s - 2 ^ k | false ↦ s ]

-- the set with token k, where k is a token of a set of 64
unfoldable pub with : ℕ → ℕ → ℕ
with s k = elim (ltb k 64) [ true ↦ union s (single k) | false ↦ s ]

-- the tokens of a set, in order, end last
unfoldable pub members : ℕ → List ℕ
members s = keep (has s) (below 64)

-- `all` for e terminals: the tokens 0 to e
unfoldable pub up_to : ℕ → ℕ
up_to e = elim (ltb e 63) [ true ↦ 2 ^ suc e - 1 | false ↦ 2 ^ 64 - 1 ]

-- every token of the one is a token of the other
abbrev pub Within : ℕ → ℕ → Type 0
Within a b = (k : ℕ) → has a k ≡ true → has b k ≡ true
