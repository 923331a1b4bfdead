use mathlib.Core.List.{map}
use Prim.Native.Nat.{◌+◌, ◌-◌}
use Rattle.lr1_base.specs.repr.Meaning.{Table}
use Rattle.table_rewrite.specs.spelling.Spelled.{chain_from, item_quad, quads}
use Rattle.table_rewrite.specs.spelling.Grown.{Grown, Room, Stands}
use Rattle.lr1_states.specs.stored_item.Stored.{entries}
use Rattle.lr1_tables.specs.state_records.Rows.{item_of}
use Rattle.lr1_tables.proofs.state_records.write_state_items.Given as goal

abbrev pub invariant-loop-m : goal.invariant-loop-m
invariant-loop-m l = (U : Table) → Stands (quads U) (l.items + l.from) (chain_from item_quad (l.items + l.from) (map item_of (entries l.words l.from (l.past - l.from)))) → Room U l.initial.out → Grown U l.initial.out l.out (l.items + l.from) (l.items + l.m)
