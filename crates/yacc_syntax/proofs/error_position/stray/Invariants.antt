use mathlib.Core.Bool.{false}
use lib.ListN.{take}
use mathlib.Core.Path.{◌≡◌}
use Rattle.yacc_syntax.specs.recognizer.Accepted.{mode_of}
use Rattle.yacc_syntax.specs.error_position.Numbers.{state_of}
use Rattle.yacc_syntax.specs.error_position.Automaton.{initial, fed}
use Rattle.yacc_syntax.proofs.error_position.Live.{is_dead}
use Rattle.yacc_syntax.proofs.error_position.stray.Given as goal

abbrev pub invariant-loop-i : goal.invariant-loop-i
invariant-loop-i l = (is_dead (mode_of l.stage.mode) ≡ false) × (state_of l.stage ≡ fed initial (take l.i l.text))
