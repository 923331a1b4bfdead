use Rattle.std.proofs.Common.{◌≡◌, ◌<◌, ◌≤◌, true, false, All, take}
use Rattle.bit_table.specs.Bits.{room}
use Rattle.bit_table.specs.Table.{SameShape, KeepsBits}
use Rattle.bit_table.specs.declared.table.BitTable.{BitTable}
use Rattle.propagation.specs.Edges.{IsSound}
use Rattle.propagation.proofs.Passed.{Passes}
use Rattle.propagation.proofs.passing.round.Given as goal

abbrev pub invariant-loop-edge : goal.invariant-loop-edge
invariant-loop-edge l = record {
  shape : SameShape l.initial.table l.table;
  keeps : KeepsBits l.initial.table l.table;
  sound : (start : BitTable) → IsSound start l.edges l.initial.table → IsSound start l.edges l.table;
  same : l.changed ≡ false → KeepsBits l.table l.initial.table;
  closed : l.changed ≡ false → All (Passes l.initial.table) (take l.edge-index l.edges);
  few : room l.table.words.items ≤ room l.initial.table.words.items;
  less : l.changed ≡ true → room l.table.words.items < room l.initial.table.words.items;
}
