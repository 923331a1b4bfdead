use mathlib.Core.Path.{◌≡◌}
use Rattle.table.specs.Decoded.{meaning}
use Rattle.state_graph.proofs.Steps.{Walking}
use Rattle.state_graph.proofs.StateWalk.walk_back.Given as goal

abbrev pub invariant-loop-symbol : goal.invariant-loop-symbol
invariant-loop-symbol l = record {
  two : l.symbol-iterator.size ≡ 2;
  table : l.self.table.words.now ≡ l.fn.self.table.words.now;
  walking : Walking (meaning l.fn.self.table.words.now) l.symbols l.initial.found.low l.initial.found.high l.found.low l.found.high l.symbol-iterator.rest.now;
}
