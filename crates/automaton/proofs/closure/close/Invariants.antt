use Rattle.std.proofs.Common.{ℕ, ◌≡◌, ◌<◌, ◌≤◌, ◌+◌, All, vec_len}
use Rattle.bit_table.specs.Bits.{room}
use Rattle.automaton.specs.declared.item.Item.{Item}
use Rattle.automaton.specs.States.{IsListed}
use Rattle.automaton.proofs.closure.close.Given as goal

abbrev pub invariant-loop : goal.invariant-loop
invariant-loop l = record {
  rows : vec_len l.grammar.nonterminals ≤ l.table.rows;
  columns : l.table.columns ≡ vec_len l.grammar.terminals + 1;
  in_range : All (λ e. e.tokens < l.table.rows) l.entries.items;
  lists : (i : Item) (t : ℕ) → IsListed l.tokens l.kernel i t → IsListed l.table l.entries.items i t;
}

abbrev pub decreases-loop : goal.decreases-loop
decreases-loop l = room l.table.words.items
