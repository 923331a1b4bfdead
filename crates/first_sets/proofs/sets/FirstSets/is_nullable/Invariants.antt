use Rattle.std.proofs.Common.{ℕ, ◌<◌, get_or}
use Rattle.grammar.specs.declared.symbol.Symbol.TheVariants.{Terminal}
use Rattle.first_sets.specs.Sets.{SymbolNull}
use Rattle.first_sets.proofs.sets.FirstSets.is_nullable.Given as goal

abbrev pub invariant-loop-symbol : goal.invariant-loop-symbol
invariant-loop-symbol l = (j : ℕ) → j < l.symbol-index → SymbolNull l.self (get_or l.symbols j (Terminal 0))
