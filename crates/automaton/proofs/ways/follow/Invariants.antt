use Rattle.std.proofs.Common.{◌≡◌, drop}
use Rattle.automaton.specs.States.{walk}
use Rattle.automaton.proofs.ways.follow.Given as goal

abbrev pub invariant-loop-symbol : goal.invariant-loop-symbol
invariant-loop-symbol l = walk l.automaton (drop l.symbol-index l.symbols) l.state ≡ walk l.automaton l.symbols l.from
