use Rattle.lr1_tables.specs.state_conflicts.Clashed.{ShiftedIn}
use Rattle.lr1_tables.proofs.state_conflicts.shift_set.Given as goal

abbrev pub invariant-loop-place : goal.invariant-loop-place
invariant-loop-place l = ShiftedIn l.grammar.words.now l.state l.place l.set.0
