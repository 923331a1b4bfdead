use Rattle.std.proofs.Common.{◌≡◌, drop}
use Rattle.automaton.specs.Targets.{target_in}
use Rattle.automaton.proofs.automaton.target.Given as goal

abbrev pub invariant-loop-transition : goal.invariant-loop-transition
invariant-loop-transition l = target_in (drop l.transition-index l.transitions) l.symbol ≡ target_in l.transitions l.symbol
