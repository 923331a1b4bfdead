use Prim.Native.Nat.{◌+◌, ◌-◌}
use Rattle.lr1_base.specs.repr.Meaning.{Table}
use Rattle.table_rewrite.specs.spelling.Spelled.{chain_from, edge_quad, quads}
use Rattle.table_rewrite.specs.spelling.Grown.{Grown, Room, Stands}
use Rattle.lr1_states.specs.transitions.Taking.{edges_in}
use Rattle.lr1_tables.proofs.state_records.write_state_edges.Given as goal

abbrev pub invariant-loop-m : goal.invariant-loop-m
invariant-loop-m l = (U : Table) → Stands (quads U) (l.at + l.from) (chain_from edge_quad (l.at + l.from) (edges_in l.edges l.from (l.past - l.from))) → Room U l.initial.out → Grown U l.initial.out l.out (l.at + l.from) (l.at + l.m)
