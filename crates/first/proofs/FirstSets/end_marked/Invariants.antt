use Rattle.std.proofs.Common.{◌≡◌}
use Rattle.lr1_base.specs.repr.Listed.{listed}
use Rattle.lr1_base.specs.lookahead.Tokens.{union}
use Rattle.first.specs.First.{marked_at_end}
use Rattle.first.proofs.FirstSets.end_marked.Given as goal

abbrev pub invariant-loop-symbol : goal.invariant-loop-symbol
invariant-loop-symbol l = union l.result.0 (marked_at_end l.self.terminals l.self.map (listed l.symbol-iterator.words.now)) ≡ marked_at_end l.self.terminals l.self.map (listed l.symbols)
