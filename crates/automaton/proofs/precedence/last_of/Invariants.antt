use Rattle.std.proofs.Common.{◌≡◌, drop, None}
use Rattle.automaton.specs.Precedence.{last_terminal}
use Rattle.automaton.proofs.precedence.last_of.Given as goal

abbrev pub invariant-loop-symbol : goal.invariant-loop-symbol
invariant-loop-symbol l = last_terminal l.last (drop l.symbol-index l.symbols) ≡ last_terminal None l.symbols
