use mathlib.Core.Path.{◌≡◌}
use lib.ListN.{drop}
use Rattle.yacc_syntax.specs.lexer.Steps.{behind_comment}
use Rattle.yacc_syntax.proofs.lexer.comment_end.Given as goal

abbrev pub invariant-loop-i : goal.invariant-loop-i
invariant-loop-i l = behind_comment l.i (drop l.i l.text) ≡ behind_comment l.at (drop l.at l.text)
