use Rattle.std.proofs.Common.{ℕ, ◌<◌, get_or}
use Rattle.grammar.specs.declared.symbol.Symbol.TheVariants.{Terminal}
use Rattle.first_sets.specs.Sets.{SymbolNull, SymbolFirst}
use Rattle.first_sets.proofs.sets.FirstSets.begins_with.Given as goal

abbrev pub invariant-loop-symbol : goal.invariant-loop-symbol
invariant-loop-symbol l = record {
  null : (j : ℕ) → j < l.symbol-index → SymbolNull l.self (get_or l.symbols j (Terminal 0));
  none : (j : ℕ) → j < l.symbol-index → SymbolFirst l.self (get_or l.symbols j (Terminal 0)) l.terminal → ⊥;
}
