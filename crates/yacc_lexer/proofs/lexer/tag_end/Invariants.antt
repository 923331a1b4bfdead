use Rattle.std.proofs.Common.{◌≤◌}
use Rattle.yacc_lexer.proofs.lexer.tag_end.Given as goal

abbrev pub invariant-loop-i : goal.invariant-loop-i
invariant-loop-i l = l.depth ≤ l.i
