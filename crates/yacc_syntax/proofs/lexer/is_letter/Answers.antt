use Rattle.std.proofs.Common.{arith}
use Rattle.std.proofs.lemmas.Grind.{common_steps}
use Rattle.yacc_syntax.specs.text.Grammar.{is_letter_byte}
use Rattle.yacc_syntax.proofs.lexer.is_letter.Goals as goal

pub returns-then-b-eq46 : goal.returns-then-b-eq46
unfolding is_letter_byte
returns-then-b-eq46 c = grind (arith, common_steps)

pub returns-else-b-eq46 : goal.returns-else-b-eq46
unfolding is_letter_byte
returns-else-b-eq46 c = grind (arith, common_steps)
