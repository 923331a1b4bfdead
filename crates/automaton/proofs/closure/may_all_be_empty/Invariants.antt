use Rattle.std.proofs.Common.{ℕ, ◌<◌, get_or}
use Rattle.grammar.specs.declared.symbol.Symbol.TheVariants.{Terminal}
use Rattle.first_sets.specs.Sets.{SymbolNull}
use Rattle.automaton.proofs.closure.may_all_be_empty.Given as goal

abbrev pub invariant-loop-symbol : goal.invariant-loop-symbol
invariant-loop-symbol l = (j : ℕ) → j < l.symbol-index → SymbolNull l.first (get_or l.symbols j (Terminal 0))
