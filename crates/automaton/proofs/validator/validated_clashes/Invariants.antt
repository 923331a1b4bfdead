use Rattle.std.proofs.Common.{ℕ, ◌<◌}
use Rattle.automaton.specs.Clashes.{ListsState}
use Rattle.automaton.specs.States.{EachMoves}
use Rattle.automaton.proofs.validator.validated_clashes.Given as goal

abbrev pub invariant-loop-state : goal.invariant-loop-state
invariant-loop-state l = record {
  moves : (k : ℕ) → k < l.state → EachMoves l.grammar l.automaton k;
  lists : (k : ℕ) → k < l.state → ListsState l.grammar l.automaton l.clashes.items k;
}
