use Rattle.std.proofs.Common.{◌≡◌, ◌<◌, ◌≤◌, true, false, All, take}
use Rattle.bit_table.specs.Bits.{room}
use Rattle.bit_table.specs.Table.{SameShape, KeepsBits}
use Rattle.automaton.specs.Spreading.{IsSpreadAt}
use Rattle.automaton.proofs.closure.give_kernel.Given as goal

abbrev pub invariant-loop-entry : goal.invariant-loop-entry
invariant-loop-entry l = record {
  shape : SameShape l.initial.table l.table;
  keeps : KeepsBits l.initial.table l.table;
  same : l.changed ≡ false → KeepsBits l.table l.initial.table;
  spread : l.changed ≡ false → All (IsSpreadAt l.grammar l.first l.table) (take l.entry-index l.kernel);
  few : room l.table.words.items ≤ room l.initial.table.words.items;
  less : l.changed ≡ true → room l.table.words.items < room l.initial.table.words.items;
}
