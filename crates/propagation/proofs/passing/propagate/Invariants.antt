use Rattle.bit_table.specs.Bits.{room}
use Rattle.bit_table.specs.Table.{SameShape, KeepsBits}
use Rattle.propagation.specs.Edges.{IsSound}
use Rattle.propagation.proofs.passing.propagate.Given as goal

abbrev pub invariant-loop : goal.invariant-loop
invariant-loop l = record {
  shape : SameShape l.fn.table l.table;
  keeps : KeepsBits l.fn.table l.table;
  sound : IsSound l.fn.table l.edges l.table;
}

abbrev pub decreases-loop : goal.decreases-loop
decreases-loop l = room l.table.words.items
