use Rattle.std.proofs.Common.{◌≡◌, ℕ, ◌<◌, ◌≤◌, false, true, get_or}
use Rattle.bit_table.specs.Bits.{room}
use Rattle.bit_table.specs.Table.{Has, SameShape, KeepsBits}
use Rattle.grammar.specs.declared.symbol.Symbol.TheVariants.{Terminal}
use Rattle.first_sets.specs.Sets.{SymbolNull, SymbolFirst}
use Rattle.automaton.proofs.closure.add_first.Given as goal

abbrev pub invariant-loop-symbol : goal.invariant-loop-symbol
invariant-loop-symbol l = record {
  shape : SameShape l.initial.table l.table;
  keeps : KeepsBits l.initial.table l.table;
  null : (j : ℕ) → j < l.symbol-index → SymbolNull l.first (get_or l.symbols j (Terminal 0));
  covered : (j : ℕ) → j < l.symbol-index → (t : ℕ) → SymbolFirst l.first (get_or l.symbols j (Terminal 0)) t → Has l.table l.row t;
  same : l.changed ≡ false → KeepsBits l.table l.initial.table;
  few : room l.table.words.items ≤ room l.initial.table.words.items;
  less : l.changed ≡ true → room l.table.words.items < room l.initial.table.words.items;
}
