use mathlib.Core.Path.{◌≡◌}
use Prim.Native.Nat.{◌+◌, ◌≤◌}
use lib.ListN.{length, get_or}
use Rattle.lr1_base.specs.repr.Sizes.{state_limit}
use Rattle.lr1_base.specs.repr.Meaning.{Table}
use Rattle.table_rewrite.specs.spelling.Spelled.{items_place}
use Rattle.table_rewrite.specs.spelling.Grown.{Grown, Room}
use Rattle.lr1_tables.specs.state_records.Rows.{ItemsIn}
use Rattle.lr1_tables.proofs.state_records.write_items.Given as goal

abbrev pub invariant-loop-k : goal.invariant-loop-k
invariant-loop-k l = (l.begins.states ≤ state_limit) × ((U : Table) → l.begins.states ≡ length U.states → l.items ≡ items_place U → ItemsIn U l.words l.begins.items → Room U l.initial.out → Grown U l.initial.out l.out (items_place U) (items_place U + get_or l.begins.items l.k 0))
