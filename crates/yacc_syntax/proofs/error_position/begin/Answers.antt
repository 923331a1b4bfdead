use mathlib.Core.Path.{refl, sym, ◌∙◌}
use mathlib.Core.List.{[]}
use Rattle.yacc_syntax.specs.text.Grammar.{blank, letter, digit}
use Rattle.yacc_syntax.specs.lexer.Steps.{token_at}
use Rattle.yacc_syntax.proofs.lexer.Bytes.{kind_white, kind_letter, kind_digit}
use Rattle.yacc_syntax.specs.error_position.Automaton.{step_kind}
use Rattle.yacc_syntax.proofs.error_position.Numbers.{by_kind}
use Rattle.yacc_syntax.proofs.error_position.begin.Goals as goal

pub returns-then-is_white : goal.returns-then-is_white
unfolding step_kind
returns-then-is_white c = by_kind _ _ _ blank (kind_white _ (sym c.is_white.ensures ∙ c.if-is_white.true)) (record { mode_is = refl; part_is = refl })

pub returns-then-is_letter : goal.returns-then-is_letter
unfolding step_kind token_at
returns-then-is_letter c = by_kind _ _ _ letter (kind_letter _ (sym c.is_white.ensures ∙ c.if-is_white.false) (sym c.is_letter.ensures ∙ c.if-is_letter.true)) (record { mode_is = c.moved.ensures [] 0 0; part_is = refl })

pub returns-then-is_digit : goal.returns-then-is_digit
unfolding step_kind
returns-then-is_digit c = by_kind _ _ _ digit (kind_digit _ (sym c.is_white.ensures ∙ c.if-is_white.false) (sym c.is_letter.ensures ∙ c.if-is_letter.false) (sym c.is_digit.ensures ∙ c.if-is_digit.true)) c.lost.ensures
