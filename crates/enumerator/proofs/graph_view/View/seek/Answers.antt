use Rattle.enumerator.proofs.graph_view.Trial.{stack_long}
use Rattle.enumerator.proofs.graph_view.Stepping.{seek-back, seek_push}
use Rattle.enumerator.proofs.graph_view.Counting.{push_counts}
use native.Mathlib.Omega.{arith}
use Rattle.enumerator.proofs.graph_view.View.seek.Goals as goal

pub returns-in_default-clause-by_index : goal.returns-in_default-clause-by_index
returns-in_default-clause-by_index c = seek-back c.args.self.older.now c.args.link (omega (arith, c.in_default.ensures)) c.back.ensures.by_index

pub push-requires : goal.push-requires
push-requires c = (stack_long c.requires.held.0, (c.requires.held.1 (λ z. omega (arith, c.in-Some.ensures)), omega (arith, c.in-Some.ensures, c.requires.link_le_edge_limit)))

pub returns-clause-by_index : goal.returns-clause-by_index
returns-clause-by_index c = seek_push c.args.self.older.now c.args.link (omega (arith, c.in-Some.ensures)) c.push.ensures

pub returns-clause-counted_walk : goal.returns-clause-counted_walk
returns-clause-counted_walk c = push_counts c.args.self.sources.bytes.now c.requires.held.0 c.in-Some.edge c.push.ensures c.requires.counted_edges
