use mathlib.Core.Path.{◌≡◌}
use Prim.Native.Nat.{◌+◌, ◌≤◌}
use lib.ListN.{length}
use Rattle.lr1_base.specs.repr.Sizes.{state_limit}
use Rattle.lr1_base.specs.repr.Meaning.{Table}
use Rattle.table_rewrite.specs.spelling.Spelled.{item_lists, edge_lists, states_at, items_place, edges_at}
use Rattle.table_rewrite.specs.spelling.Grown.{Grown, Room}
use Rattle.lr1_tables.specs.state_records.Rows.{BeginsOf}
use Rattle.lr1_tables.proofs.state_records.write_states.Given as goal

abbrev pub invariant-loop-s : goal.invariant-loop-s
invariant-loop-s l = (l.begins.states ≤ state_limit) × ((U : Table) → l.begins.states ≡ length U.states → l.at ≡ states_at U → l.items ≡ items_place U → l.ends ≡ edges_at U → BeginsOf (item_lists U) l.begins.items → BeginsOf (edge_lists U) l.rows → Room U l.initial.out → Grown U l.initial.out l.out (states_at U) (states_at U + l.s))
