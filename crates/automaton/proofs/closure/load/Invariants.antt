use Rattle.std.proofs.Common.{ℕ, ◌<◌, All, take}
use Rattle.bit_table.specs.Table.{SameShape}
use Rattle.automaton.specs.declared.item.Item.{Item}
use Rattle.automaton.specs.States.{IsListed}
use Rattle.automaton.proofs.closure.load.Given as goal

abbrev pub invariant-loop-i : goal.invariant-loop-i
invariant-loop-i l = record {
  shape : SameShape l.initial.table l.table;
  in_range : All (λ e. e.tokens < l.initial.table.rows) l.entries.items;
  lists : (i : Item) (t : ℕ) → IsListed l.tokens (take l.i l.kernel) i t → IsListed l.table l.entries.items i t;
}
