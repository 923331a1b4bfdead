-- What an item's place makes of its production's symbols (docs/RULES.md, "Items"; lr1/core).
use Rattle.std.specs.Prelude.{ℕ, suc, ◌+◌, ◌*◌, Bool, false, List, [], ◌∷◌, length, take, drop, ◌==◌}
use Rattle.std.proofs.Math.Option.{Option, none, some}
use Rattle.lr1_base.specs.repr.Meaning.{Symbol, nonterminal, terminal}
use Rattle.lr1_base.specs.repr.Listed.{listed}

-- `SymbolSets`
pub record Sets : Type 0 where
  pub prefix : List Symbol
  pub cursor : Option Symbol
  pub suffix : List Symbol

-- the empty sets that `SymbolSets::new` gives
abbrev pub no_sets : Sets
no_sets = record { prefix = []; cursor = none; suffix = [] }

unfoldable pub first : List Symbol → Option Symbol
first [] = none
first (x ∷ xs) = some x

-- an item at index i under the length has prefix before i, cursor at i, suffix after; at the length, all is prefix
unfoldable pub symbol_sets : List Symbol → ℕ → Sets
symbol_sets xs i = record { prefix = take i xs; cursor = first (drop i xs); suffix = drop (suc i) xs }

-- how many symbols stand before the cursor, at it (0 or 1) and after it
pub data Counts : Type 0 where
  counts : ℕ → ℕ → ℕ → Counts

unfoldable pub held : Option Symbol → ℕ
held none = 0
held (some x) = 1

unfoldable pub counts_of : Sets → Counts
counts_of s = counts (length s.prefix) (held s.cursor) (length s.suffix)

unfoldable pub is_nonterminal : ℕ → Option Symbol → Bool
is_nonterminal n none = false
is_nonterminal n (some (nonterminal m)) = m == n
is_nonterminal n (some (terminal t)) = false

-- `can_shift_nonterminal`
unfoldable pub shifts_nonterminal : List Symbol → ℕ → ℕ → Bool
shifts_nonterminal xs i n = is_nonterminal n (symbol_sets xs i).cursor

-- the sets that three counts make of a production's words
unfoldable pub sets_in : List ℕ → ℕ → ℕ → ℕ → Sets
sets_in ws before at after = record {
  prefix = listed (take (2 * before) ws);
  cursor = first (listed (take (2 * at) (drop (2 * before) ws)));
  suffix = listed (take (2 * after) (drop (2 * (before + at)) ws));
}
