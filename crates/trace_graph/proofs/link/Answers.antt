use Rattle.std.proofs.Common.{refl, arith, length-set}
use Rattle.lr1_base.specs.hash_index.Chains.{chained}
use Rattle.trace_graph.proofs.link.Goals as goal

pub bounds-ix-bucket-2 : goal.bounds-ix-bucket-2
bounds-ix-bucket-2 c = simp length-set (omega arith)

pub returns : goal.returns
unfolding chained
returns c = refl
