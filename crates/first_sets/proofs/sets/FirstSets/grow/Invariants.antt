use Rattle.std.proofs.Common.{◌≡◌, ℕ, ◌<◌, ◌≤◌, false, true, List, get_or}
use Rattle.bit_table.specs.Table.{SameShape, KeepsBits}
use Rattle.grammar.specs.declared.symbol.Symbol.TheVariants.{Terminal}
use Rattle.grammar.specs.declared.symbol.Production.{Production}
use Rattle.grammar.specs.Derives.{HasRule}
use Rattle.first_sets.specs.Sets.{IsSound, SymbolNull, SymbolFirst, first_of, room_of}
use Rattle.first_sets.proofs.sets.FirstSets.grow.Given as goal

abbrev pub invariant-loop-symbol : goal.invariant-loop-symbol
invariant-loop-symbol l = record {
  shape : SameShape l.initial.self.sets l.self.sets;
  nullable : l.self.nullable ≡ l.initial.self.nullable;
  null : (j : ℕ) → j < l.symbol-index → SymbolNull l.self (get_or l.production.right.items j (Terminal 0));
  sound : (ps : List Production) → HasRule ps l.left l.production.right.items → IsSound ps l.initial.self → IsSound ps l.self;
  keeps : KeepsBits l.initial.self.sets l.self.sets;
  same : l.changed ≡ false → KeepsBits l.self.sets l.initial.self.sets;
  covered : l.changed ≡ false → (j : ℕ) → j < l.symbol-index → (t : ℕ) → SymbolFirst l.self (get_or l.production.right.items j (Terminal 0)) t → first_of l.self l.left t;
  few : room_of l.self ≤ room_of l.initial.self;
  less : l.changed ≡ true → room_of l.self < room_of l.initial.self;
}
