use Rattle.std.proofs.Common.{arith, length-set}
use Rattle.trace_graph.proofs.Words.{words_stored}
use Rattle.trace_graph.proofs.write_edge.Goals as goal

pub bounds-graph-at-2 : goal.bounds-graph-at-2
bounds-graph-at-2 c = simp length-set (omega arith)

pub bounds-graph-at-3 : goal.bounds-graph-at-3
bounds-graph-at-3 c = simp length-set (omega arith)

pub bounds-graph-at-4 : goal.bounds-graph-at-4
bounds-graph-at-4 c = simp length-set (omega arith)

pub bounds-graph-at-5 : goal.bounds-graph-at-5
bounds-graph-at-5 c = simp length-set (omega arith)

pub bounds-graph-at-6 : goal.bounds-graph-at-6
bounds-graph-at-6 c = simp length-set (omega arith)

pub bounds-graph-at-7 : goal.bounds-graph-at-7
bounds-graph-at-7 c = simp length-set (omega arith)

pub bounds-graph-at-8 : goal.bounds-graph-at-8
bounds-graph-at-8 c = simp length-set (omega arith)

pub shape_of-graph : goal.shape_of-graph
shape_of-graph c = simp length-set

pub returns : goal.returns
returns c = words_stored c.args.graph.now c.args.k c.args.edge
