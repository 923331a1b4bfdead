use native.Mathlib.Omega.{arith}
use mathlib.Core.Path.{refl, sym, ◌∙◌}
use Rattle.yacc_syntax.specs.lexer.Steps.{Steps}
use Rattle.yacc_syntax.proofs.lexer.Bytes.{kind_white, kind_letter, kind_digit, kind_quote, kind_percent, kind_slash, kind_colon, kind_bar, kind_semi, kind_other}
use Rattle.yacc_syntax.proofs.lexer.Laws.{end_step, at_white, at_none, at_colon, at_bar, at_semi, at_letter}
use Rattle.yacc_syntax.proofs.lexer.piece_at.Goals as goal

pub returns-then-text-at : goal.returns-then-text-at
unfolding Steps
returns-then-text-at c = end_step c.args.text.now c.args.at c.if-text-at.true

pub literal_at-requires : goal.literal_at-requires
literal_at-requires c = (c.if-text-at.false, kind_quote _ c.in-39.is)

pub directive_at-requires : goal.directive_at-requires
directive_at-requires c = (c.if-text-at.false, kind_percent _ c.in-37.is)

pub comment_at-requires : goal.comment_at-requires
comment_at-requires c = (c.if-text-at.false, kind_slash _ c.in-47.is)

pub returns-in-58 : goal.returns-in-58
unfolding Steps
returns-in-58 c = at_colon c.args.text.now c.args.at c.if-text-at.false (kind_colon _ c.in-58.is)

pub returns-in-124 : goal.returns-in-124
unfolding Steps
returns-in-124 c = at_bar c.args.text.now c.args.at c.if-text-at.false (kind_bar _ c.in-124.is)

pub returns-in-59 : goal.returns-in-59
unfolding Steps
returns-in-59 c = at_semi c.args.text.now c.args.at c.if-text-at.false (kind_semi _ c.in-59.is)

pub returns-then-is_white : goal.returns-then-is_white
unfolding Steps
returns-then-is_white c = at_white c.args.text.now c.args.at c.if-text-at.false (kind_white _ (sym c.is_white.ensures ∙ c.if-is_white.true))

pub returns-then-is_letter : goal.returns-then-is_letter
unfolding Steps
returns-then-is_letter c = at_letter c.args.text.now c.args.at c.if-text-at.false (kind_letter _ (sym c.is_white.ensures ∙ c.if-is_white.false) (sym c.is_letter.ensures ∙ c.if-is_letter.true)) _ c.run_end.ensures

pub returns-in_default-3 : goal.returns-in_default-3
unfolding Steps
returns-in_default-3 c =
    let w = sym c.is_white.ensures ∙ c.if-is_white.false in
    let l = sym c.is_letter.ensures ∙ c.if-is_letter.false in
    at_none c.args.text.now c.args.at c.if-text-at.false _ refl (λ d. kind_digit _ w l d)
    (λ n. kind_other _ w l n (λ e. omega arith) (λ e. omega arith) (λ e. omega arith) (λ e. omega arith) (λ e. omega arith) (λ e. omega arith))
