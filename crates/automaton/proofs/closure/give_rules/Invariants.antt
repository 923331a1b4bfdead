use Rattle.std.proofs.Common.{◌≡◌, ◌<◌, ◌≤◌, true, false, All, take}
use Rattle.bit_table.specs.Bits.{room}
use Rattle.bit_table.specs.Table.{SameShape, KeepsBits}
use Rattle.automaton.specs.Spreading.{AreSpread}
use Rattle.automaton.proofs.closure.give_rules.Given as goal

abbrev pub invariant-loop-n : goal.invariant-loop-n
invariant-loop-n l = record {
  shape : SameShape l.initial.table l.table;
  keeps : KeepsBits l.initial.table l.table;
  same : l.changed ≡ false → KeepsBits l.table l.initial.table;
  spread : l.changed ≡ false → All (AreSpread l.grammar l.first l.alternatives l.table) (take l.n-index l.reached);
  few : room l.table.words.items ≤ room l.initial.table.words.items;
  less : l.changed ≡ true → room l.table.words.items < room l.initial.table.words.items;
}
