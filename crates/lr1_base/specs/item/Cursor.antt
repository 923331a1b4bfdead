-- The symbol at an item's cursor as one number.
use Rattle.std.specs.Prelude.{ℕ, ◌+◌, List, [], ◌∷◌, drop}
use Rattle.lr1_base.specs.repr.Meaning.{Symbol, nonterminal, terminal}
use Rattle.lr1_base.specs.repr.Listed.{listed}
use Rattle.lr1_base.specs.repr.Packed.{symbol_words}

-- a symbol in one number: nonterminals below 32, terminals from there on
unfoldable pub symbol_code : Symbol → ℕ
symbol_code (nonterminal n) = n
symbol_code (terminal t) = 32 + t

-- the symbol at the cursor, 95 where there is none
unfoldable pub cursor_code : List Symbol → ℕ
cursor_code [] = 95
cursor_code (x ∷ xs) = symbol_code x

-- by the packed words
unfoldable pub code_in : List ℕ → ℕ → ℕ → ℕ
code_in g p i = cursor_code (drop i (listed (symbol_words g p)))
