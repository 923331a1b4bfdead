use Rattle.std.proofs.Common.{rules}
use Rattle.yacc_syntax.proofs.lexer.is_digit.Goals as goal
use Rattle.lr1_base.specs.numerals.Numeral.{is_digit_byte}

pub returns : goal.returns
unfolding is_digit_byte
returns c = search rules
