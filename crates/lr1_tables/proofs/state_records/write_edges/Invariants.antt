use mathlib.Core.Path.{◌≡◌}
use Prim.Native.Nat.{◌+◌, ◌≤◌}
use lib.ListN.{length, get_or}
use Rattle.lr1_base.specs.repr.Sizes.{state_limit}
use Rattle.lr1_base.specs.repr.Meaning.{Table}
use Rattle.table_rewrite.specs.spelling.Spelled.{edges_at}
use Rattle.table_rewrite.specs.spelling.Grown.{Grown, Room}
use Rattle.lr1_tables.specs.state_records.Rows.{EdgesIn}
use Rattle.lr1_tables.proofs.state_records.write_edges.Given as goal

abbrev pub invariant-loop-k : goal.invariant-loop-k
invariant-loop-k l = (l.states ≤ state_limit) × ((U : Table) → l.states ≡ length U.states → l.at ≡ edges_at U → EdgesIn U l.edges.list.words l.edges.rows → Room U l.initial.out → Grown U l.initial.out l.out (edges_at U) (edges_at U + get_or l.edges.rows l.k 0))
