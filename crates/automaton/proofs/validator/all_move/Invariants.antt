use Rattle.std.proofs.Common.{All, take}
use Rattle.automaton.specs.States.{MovesEntry}
use Rattle.automaton.proofs.validator.all_move.Given as goal

abbrev pub invariant-loop-entry : goal.invariant-loop-entry
invariant-loop-entry l = All (MovesEntry l.grammar l.automaton l.state l.table) (take l.entry-index l.entries)
