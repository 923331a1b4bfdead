-- Items of a grammar: a production with a dot.
use Rattle.std.specs.Prelude.{ℕ, ◌≡◌, ◌<◌, ◌+◌, List, [], length, map, drop, slice_index_or}
use Rattle.grammar.specs.declared.symbol.Symbol.{Symbol}
use Rattle.grammar.specs.declared.symbol.Production.{Production}
use Rattle.grammar.specs.declared.grammar.Grammar.{Grammar}
use Rattle.automaton.specs.declared.item.Item.{Item}

-- the right side of a production, by its number
abbrev pub right_of : Grammar → ℕ → List Symbol
right_of g p = slice_index_or (map (λ (x : Production). x.right.items) g.productions.items) p []

-- the symbols behind the dot
abbrev pub rest_of : Grammar → Item → List Symbol
rest_of g i = drop i.dot (right_of g i.production)

-- the production with the dot before its first symbol
abbrev pub fresh : ℕ → Item
fresh p = record { production = p; dot = 0 }

-- with the dot behind its last
abbrev pub complete : Grammar → ℕ → Item
complete g p = record { production = p; dot = length (right_of g p) }

-- with the dot one symbol further
abbrev pub advanced : Item → Item
advanced i = record { production = i.production; dot = i.dot + 1 }

-- the left side of a production, by its number
abbrev pub left_of : Grammar → ℕ → ℕ
left_of g p = slice_index_or (map (λ (x : Production). x.left) g.productions.items) p 0

-- the number is that of a production of the nonterminal
pub record IsRule (g : Grammar) (p n : ℕ) : Type 0 where
  pub within : p < length g.productions.items
  pub left : left_of g p ≡ n
