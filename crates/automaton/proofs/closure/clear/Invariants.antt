use Rattle.bit_table.specs.Table.{SameShape}
use Rattle.automaton.proofs.closure.clear.Given as goal

abbrev pub invariant-loop-n : goal.invariant-loop-n
invariant-loop-n l = SameShape l.initial.table l.table

abbrev pub invariant-loop-i : goal.invariant-loop-i
invariant-loop-i l = SameShape l.initial.table l.table
