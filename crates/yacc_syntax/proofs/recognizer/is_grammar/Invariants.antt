use Prim.Native.Nat.{◌-◌, ◌≤◌}
use mathlib.Core.Path.{◌≡◌}
use lib.ListN.{length}
use Rattle.yacc_syntax.specs.text.Places.{placed_from}
use Rattle.yacc_syntax.specs.recognizer.Accepted.{mode_of, judged, is_grammar_text}
use Rattle.yacc_syntax.proofs.recognizer.is_grammar.Given as goal

abbrev pub invariant-loop-lexeme : goal.invariant-loop-lexeme
invariant-loop-lexeme l = (l.at ≤ length l.text) × (judged (mode_of l.mode) (placed_from l.text l.at) ≡ is_grammar_text l.text)

abbrev pub decreases-loop-lexeme : goal.decreases-loop-lexeme
decreases-loop-lexeme l = length l.text - l.at
