use mathlib.Core.Path.{sym, ap, ◌∙◌}
use mathlib.Core.Bool.{Bool, ◌||◌}
use Rattle.yacc_syntax.proofs.lexer.Bytes.{goes_is}
use Rattle.yacc_syntax.proofs.lexer.goes_on.Goals as goal
use Rattle.lr1_base.specs.numerals.Numeral.{is_digit_byte}

pub returns-then-is_letter : goal.returns-then-is_letter
returns-then-is_letter c = c.if-is_letter.true ∙ sym (ap (λ (x : Bool). x || is_digit_byte c.args.b) (sym c.is_letter.ensures ∙ c.if-is_letter.true)) ∙ goes_is c.args.b

pub returns-else-is_letter : goal.returns-else-is_letter
returns-else-is_letter c = c.is_digit.ensures ∙ sym (ap (λ (x : Bool). x || is_digit_byte c.args.b) (sym c.is_letter.ensures ∙ c.if-is_letter.false)) ∙ goes_is c.args.b
