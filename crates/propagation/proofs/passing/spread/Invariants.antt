use Rattle.bit_table.specs.Table.{SameShape, KeepsBits}
use Rattle.bit_table.specs.declared.table.BitTable.{BitTable}
use Rattle.propagation.specs.Edges.{IsSound}
use Rattle.propagation.proofs.passing.spread.Given as goal

abbrev pub invariant-loop : goal.invariant-loop
invariant-loop l = record {
  shape : SameShape l.initial.table l.table;
  keeps : KeepsBits l.initial.table l.table;
  sound : (start : BitTable) → IsSound start l.edges l.initial.table → IsSound start l.edges l.table;
}
