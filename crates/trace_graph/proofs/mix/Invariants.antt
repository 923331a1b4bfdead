use Rattle.std.proofs.Common.{◌≡◌}
use Rattle.trace_graph.proofs.Buckets.{Mixing}
use Rattle.trace_graph.proofs.mix.Given as goal

abbrev pub invariant-loop-symbol : goal.invariant-loop-symbol
invariant-loop-symbol l = record {
  two : l.symbol-iterator.size ≡ 2;
  mixing : Mixing l.list l.start l.sum l.symbol-iterator.rest.now;
}
