use native.Mathlib.Omega.{arith}
use mathlib.Core.Path.{sym, ap, ◌∙◌}
use Rattle.yacc_syntax.specs.text.Grammar.{literal_byte}
use Rattle.yacc_syntax.specs.lexer.Steps.{Steps}
use Rattle.yacc_syntax.proofs.lexer.Runs.{rest_long, byte_behind}
use Rattle.yacc_syntax.proofs.lexer.Laws.{literal_short, literal_bad, literal_open, literal_whole}
use Rattle.yacc_syntax.proofs.lexer.literal_at.Goals as goal

pub returns-in-len3-up : goal.returns-in-len3-up
unfolding Steps
returns-in-len3-up c =
    let l = c.in-len3-up.len_at_least in
    let r = rest_long c.args.at c.args.text.now in
    literal_whole _ _ c.requires.0 c.requires.1 (omega (arith, l, r)) _ (c.is_literal.ensures ∙ ap literal_byte (byte_behind c.args.at 1 c.args.text.now)) c.if-is_literal.true (sym (byte_behind c.args.at 2 c.args.text.now) ∙ c.if-end-eq39.true)

pub returns-in_default : goal.returns-in_default
unfolding Steps
returns-in_default c =
    let l = c.in_default.len_below in
    let r = rest_long c.args.at c.args.text.now in
    let h = c.requires.0 in
    literal_short _ _ c.requires.0 c.requires.1 (omega (arith, l, r, h))

pub returns-in_default-2 : goal.returns-in_default-2
unfolding Steps
returns-in_default-2 c =
    let l = c.in-len3-up.len_at_least in
    let r = rest_long c.args.at c.args.text.now in
    literal_open _ _ c.requires.0 c.requires.1 (omega (arith, l, r)) _ (c.is_literal.ensures ∙ ap literal_byte (byte_behind c.args.at 1 c.args.text.now)) c.if-is_literal.true (λ e. c.if-end-eq39.false (byte_behind c.args.at 2 c.args.text.now ∙ e))

pub returns-in_default-3 : goal.returns-in_default-3
unfolding Steps
returns-in_default-3 c =
    let l = c.in-len3-up.len_at_least in
    let r = rest_long c.args.at c.args.text.now in
    literal_bad _ _ c.requires.0 c.requires.1 (omega (arith, l, r)) _ (c.is_literal.ensures ∙ ap literal_byte (byte_behind c.args.at 1 c.args.text.now)) c.if-is_literal.false
