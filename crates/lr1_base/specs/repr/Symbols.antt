-- A symbol of the code as the meaning of a table has it.
use Rattle.std.specs.Prelude.{◌<◌}
use Rattle.lr1_base.specs.repr.Sizes.{nonterminal_limit, terminal_limit}
use Rattle.lr1_base.specs.repr.Meaning.{Symbol, nonterminal, terminal}
use Rattle.lr1_base.specs.declared.repr.Symbol.{Symbol as Coded}
use Rattle.lr1_base.specs.declared.repr.Symbol.TheVariants.{Nonterminal, Terminal}

abbrev pub meant : Coded → Symbol
meant (Nonterminal n) = nonterminal n.0
meant (Terminal t) = terminal t

-- a number that any table may have
abbrev pub IsInRange : Coded → Type 0
IsInRange (Nonterminal n) = n.0 < nonterminal_limit
IsInRange (Terminal t) = t < terminal_limit
