-- The code's stages as the automaton's states.
use Rattle.std.specs.Prelude.{◌≡◌}
use Rattle.yacc_syntax.specs.recognizer.Accepted.{mode_of}
use Rattle.yacc_syntax.specs.error_position.Automaton.{Part, between, run, signed, word, opened, filled, slashed, inside, starred, State, at}
use Rattle.yacc_syntax.specs.declared.error_position.Part.{Part as Part'}
use Rattle.yacc_syntax.specs.declared.error_position.Part.TheVariants.{Between, Run, Signed, Word, Opened, Filled, Slashed, Inside, Starred}
use Rattle.yacc_syntax.specs.declared.error_position.Stage.{Stage}

abbrev pub part_of : Part' → Part
part_of Between = between
part_of Run = run
part_of Signed = signed
part_of (Word ws) = word ws.now
part_of Opened = opened
part_of Filled = filled
part_of Slashed = slashed
part_of Inside = inside
part_of Starred = starred

abbrev pub state_of : Stage → State
state_of s = at (mode_of s.mode) (part_of s.part)

-- a stage that stands for a state
pub record Stands (r : Stage) (s : State) : Type 0 where
  pub mode_is : mode_of r.mode ≡ s.mode
  pub part_is : part_of r.part ≡ s.part
