-- What is of use in a grammar: symbols that derive sentences, and nonterminals that stand in some.
use Rattle.std.specs.Prelude.{◌≡◌, ℕ, List, [], ◌∷◌, ◌++◌, Some, slice_get, map}
use Rattle.grammar.specs.declared.symbol.Symbol.{Symbol}
use Rattle.grammar.specs.declared.symbol.Symbol.TheVariants.{Terminal, Nonterminal}
use Rattle.grammar.specs.declared.symbol.Production.{Production}
use Rattle.grammar.specs.Derives.{Derives}

-- the symbol derives a list of terminals
abbrev pub DerivesSentence : List Production → Symbol → Type 0
DerivesSentence ps x = (tokens : List ℕ) × Derives ps (x ∷ []) (map Terminal tokens)

-- The start symbol, which is the left side of the first production, derives a form in which the nonterminal stands
-- among terminals.
pub record IsInReach (ps : List Production) (n : ℕ) : Type 0 where
  pub start : Production
  pub first : slice_get ps 0 ≡ Some start
  pub front : List ℕ
  pub back : List ℕ
  pub derived : Derives ps (Nonterminal start.left ∷ []) (map Terminal front ++ (Nonterminal n ∷ map Terminal back))
