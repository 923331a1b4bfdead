-- Flags, 64 to a word.
use Rattle.std.specs.Prelude.{ℕ, ◌/◌, ◌%◌, Bool, List, get_or, set}
use Rattle.lr1_base.specs.lookahead.Tokens.{has, single, union}

-- flag k is set
unfoldable pub bit_at : List ℕ → ℕ → Bool
bit_at ws k = has (get_or ws (k / 64) 0) (k % 64)

-- flag k set besides
unfoldable pub bit_put : List ℕ → ℕ → List ℕ
bit_put ws k = set ws (k / 64) (union (get_or ws (k / 64) 0) (single (k % 64)))
