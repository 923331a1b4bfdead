use Rattle.std.proofs.Common.{rules}
use Rattle.yacc_syntax.specs.text.Grammar.{is_white_byte}
use Rattle.yacc_syntax.proofs.lexer.is_white.Goals as goal

pub returns-in_default : goal.returns-in_default
unfolding is_white_byte
returns-in_default c = search rules

pub returns-in_default-2 : goal.returns-in_default-2
unfolding is_white_byte
returns-in_default-2 c = search rules

pub returns-in-32 : goal.returns-in-32
unfolding is_white_byte
returns-in-32 c = search rules

pub returns-in-32-2 : goal.returns-in-32-2
unfolding is_white_byte
returns-in-32-2 c = search rules
