-- Where transitions lead.
use Rattle.std.specs.Prelude.{ℕ, ◌==◌, Bool, false, if◌then◌else◌, List, [], ◌∷◌, Option, Some, None}
use Rattle.grammar.specs.declared.symbol.Symbol.{Symbol}
use Rattle.grammar.specs.declared.symbol.Symbol.TheVariants.{Terminal, Nonterminal}
use Rattle.automaton.specs.declared.automaton.Transition.{Transition}

abbrev pub same_symbol : Symbol → Symbol → Bool
same_symbol (Terminal a) (Terminal b) = a == b
same_symbol (Nonterminal a) (Nonterminal b) = a == b
same_symbol (Terminal a) (Nonterminal b) = false
same_symbol (Nonterminal a) (Terminal b) = false

-- the first transition over the symbol
abbrev pub target_in : List Transition → Symbol → Option ℕ
target_in [] x = None
target_in (t ∷ ts) x = if same_symbol t.symbol x then Some t.to else target_in ts x
