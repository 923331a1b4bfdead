use Rattle.std.proofs.Common.{arith}
use Rattle.std.proofs.lemmas.Grind.{common_steps}
use Rattle.yacc_syntax.specs.text.Grammar.{literal_byte}
use Rattle.yacc_syntax.proofs.lexer.is_literal.Goals as goal

pub returns : goal.returns
unfolding literal_byte
returns c = grind (arith, common_steps)
