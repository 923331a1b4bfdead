use Rattle.bit_table.specs.Table.{SameShape, KeepsBits}
use Rattle.bit_table.specs.declared.table.BitTable.{BitTable}
use Rattle.propagation.specs.Edges.{IsSound}
use Rattle.propagation.proofs.passing.pass_from.Given as goal

abbrev pub invariant-loop-number : goal.invariant-loop-number
invariant-loop-number l = record {
  shape : SameShape l.initial.table l.table;
  keeps : KeepsBits l.initial.table l.table;
  sound : (start : BitTable) → IsSound start l.edges l.initial.table → IsSound start l.edges l.table;
}
