-- A list of symbols in words, kind and number each (docs/RULES.md, "Symbols in words"): a caller's list, and what the code hands on.
use Rattle.std.specs.Prelude.{ℕ, zero, suc, Bool, true, false, ◌&&◌, List, [], ◌∷◌, ltb}
use Rattle.lr1_base.specs.repr.Meaning.{Symbol, nonterminal, terminal}

-- kind 0 is a nonterminal, 1 a terminal
unfoldable pub symbol_of_kind : ℕ → ℕ → Symbol
symbol_of_kind zero n = nonterminal n
symbol_of_kind (suc k) n = terminal n

unfoldable pub listed : List ℕ → List Symbol
listed [] = []
listed (k ∷ []) = []
listed (k ∷ n ∷ ws) = symbol_of_kind k n ∷ listed ws

-- a kind of 0 or 1, a number below n for a nonterminal and below t for a terminal
unfoldable pub symbol_is_fit : ℕ → ℕ → ℕ → ℕ → Bool
symbol_is_fit n t zero x = ltb x n
symbol_is_fit n t (suc zero) x = ltb x t
symbol_is_fit n t (suc (suc k)) x = false

-- whole symbols, each in range; else refusal 9
unfoldable pub list_is_fit : ℕ → ℕ → List ℕ → Bool
list_is_fit n t [] = true
list_is_fit n t (k ∷ []) = false
list_is_fit n t (k ∷ x ∷ ws) = symbol_is_fit n t k x && list_is_fit n t ws
