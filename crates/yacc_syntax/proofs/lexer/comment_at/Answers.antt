use Rattle.yacc_syntax.proofs.lexer.Laws.{no_comment, comment-inside, endless, at_comment}
use mathlib.Core.Path.{sym, ap, ◌∙◌}
use Rattle.yacc_syntax.specs.lexer.Steps.{found_at, Steps}
use Rattle.yacc_syntax.proofs.lexer.comment_at.Goals as goal

pub returns-then-not-has_word : goal.returns-then-not-has_word
unfolding Steps found_at
returns-then-not-has_word c = no_comment c.args.text.now c.args.at c.requires.0 c.requires.1 _ c.has_word.ensures c.if-not-has_word.true

pub comment_end-requires : goal.comment_end-requires
comment_end-requires c = comment-inside c.args.text.now c.args.at c.requires.0 c.requires.1 _ c.has_word.ensures c.if-not-has_word.false

pub returns-in-Some : goal.returns-in-Some
unfolding Steps found_at
returns-in-Some c = at_comment c.args.text.now c.args.at c.requires.0 c.requires.1 _ c.has_word.ensures c.if-not-has_word.false _ (sym (ap found_at c.in-Some.is) ∙ c.comment_end.ensures)

pub returns-in-None : goal.returns-in-None
unfolding Steps found_at
returns-in-None c = endless c.args.text.now c.args.at c.requires.0 c.requires.1 _ c.has_word.ensures c.if-not-has_word.false (sym (ap found_at c.in-None.is) ∙ c.comment_end.ensures)
