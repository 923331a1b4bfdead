use Rattle.std.proofs.Common.{◌≡◌, ◌<◌, ◌≤◌, true, false, All, take}
use Rattle.bit_table.specs.Bits.{room}
use Rattle.bit_table.specs.Table.{SameShape, KeepsBits}
use Rattle.automaton.specs.Spreading.{IsSpreadFrom}
use Rattle.automaton.proofs.closure.give_alternatives.Given as goal

abbrev pub invariant-loop-q : goal.invariant-loop-q
invariant-loop-q l = record {
  shape : SameShape l.initial.table l.table;
  keeps : KeepsBits l.initial.table l.table;
  same : l.changed ≡ false → KeepsBits l.table l.initial.table;
  spread : l.changed ≡ false → All (IsSpreadFrom l.grammar l.first l.table l.left) (take l.q-index l.productions);
  few : room l.table.words.items ≤ room l.initial.table.words.items;
  less : l.changed ≡ true → room l.table.words.items < room l.initial.table.words.items;
}
