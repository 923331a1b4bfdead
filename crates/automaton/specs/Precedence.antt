-- What precedence says of a production that may be reduced before a token that may be shifted, as
-- POSIX says it of yacc.
use Rattle.std.specs.Prelude.{ℕ, ◌==◌, nat_lt, if◌then◌else◌, List, [], ◌∷◌, Option, Some, None, option_and_then, position, slice_get}
use Rattle.std.specs.List.{list_any}
use Rattle.grammar.specs.declared.symbol.Symbol.{Symbol}
use Rattle.grammar.specs.declared.symbol.Symbol.TheVariants.{Terminal, Nonterminal}
use Rattle.grammar.specs.declared.symbol.Production.{Production}
use Rattle.grammar.specs.declared.precedence.Level.{Level}
use Rattle.grammar.specs.declared.precedence.Associativity.{Associativity}
use Rattle.grammar.specs.declared.precedence.Associativity.TheVariants.{Left, Right, Nonassoc, Precedence}
use Rattle.grammar.specs.declared.grammar.Grammar.{Grammar}
use Rattle.automaton.specs.declared.precedence.Choice.{Choice}
use Rattle.automaton.specs.declared.precedence.Choice.TheVariants.{KeepShift, KeepReduction, KeepNeither, Undecided}

-- the number of a terminal's level, the lowest 0
abbrev pub level_of : Grammar → ℕ → Option ℕ
level_of g t = position (λ (l : Level). list_any (λ u. u == t) l.terminals.items) g.levels.items

-- the last terminal of the symbols, or the one from before them
abbrev pub last_terminal : Option ℕ → List Symbol → Option ℕ
last_terminal before [] = before
last_terminal before (Terminal t ∷ xs) = last_terminal (Some t) xs
last_terminal before (Nonterminal n ∷ xs) = last_terminal before xs

-- the terminal that a production has its precedence of: that of %prec, else the last of its right
-- side
abbrev pub terminal_of : Production → Option ℕ
terminal_of p = given p.precedence
  where
    given : Option ℕ → Option ℕ
    given (Some t) = Some t
    given None = last_terminal None p.right.items

abbrev pub production_terminal : Grammar → ℕ → Option ℕ
production_terminal g p = option_and_then terminal_of (slice_get g.productions.items p)

abbrev pub production_level : Grammar → ℕ → Option ℕ
production_level g p = option_and_then (level_of g) (production_terminal g p)

-- at one level
abbrev pub by_associativity : Option Level → Choice
by_associativity None = Undecided
by_associativity (Some l) = of l.associativity
  where
    of : Associativity → Choice
    of Left = KeepReduction
    of Right = KeepShift
    of Nonassoc = KeepNeither
    of Precedence = Undecided

-- the higher level wins; without two levels nothing is decided
abbrev pub compare_levels : List Level → Option ℕ → Option ℕ → Choice
compare_levels levels None t = Undecided
compare_levels levels (Some p) None = Undecided
compare_levels levels (Some p) (Some t) =
    if nat_lt t p then KeepReduction
    else (if nat_lt p t then KeepShift else by_associativity (slice_get levels t))

abbrev pub choice_of : Grammar → ℕ → ℕ → Choice
choice_of g p t = compare_levels g.levels.items (production_level g p) (level_of g t)
