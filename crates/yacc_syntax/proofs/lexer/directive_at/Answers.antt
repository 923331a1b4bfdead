use mathlib.Core.Bool.{true≢false}
use mathlib.Core.Path.{sym, ◌∙◌}
use Rattle.yacc_syntax.proofs.lexer.Laws.{at_mark, at_token_lem, token_joined, at_start, start_joined, no_directive}
use Rattle.yacc_syntax.specs.lexer.Steps.{Steps}
use Rattle.yacc_syntax.proofs.lexer.directive_at.Goals as goal
use Rattle.yacc_syntax.proofs.lexer.directive_at.Goals.{else-has_word-2-via-then-has_word-2+else-stops_at, else-has_word-2-via-else-has_word-2, else-has_word-3-via-then-has_word-3+else-stops_at-2, else-has_word-3-via-else-has_word-3}

pub returns-then-has_word : goal.returns-then-has_word
unfolding Steps
returns-then-has_word c = at_mark c.args.text.now c.args.at c.requires.0 c.requires.1 _ c.has_word.ensures c.if-has_word.true

pub returns-then-stops_at : goal.returns-then-stops_at
unfolding Steps
returns-then-stops_at c = at_token_lem c.args.text.now c.args.at c.requires.0 c.requires.1 _ c.has_word.ensures c.if-has_word.false _ c.has_word-2.ensures _ c.stops_at.ensures c.if-has_word-2.true c.if-stops_at.true

pub returns-then-stops_at-2 : goal.returns-then-stops_at-2
unfolding Steps
returns-then-stops_at-2 c = elim c.else-has_word-2.branch [
  | else-has_word-2-via-then-has_word-2+else-stops_at w ↦ absurd (true≢false (sym c.if-stops_at-2.true ∙ c.stops_at-then-has_word-3.ensures ∙ sym w.stops_at.ensures ∙ w.if-stops_at.false))
  | else-has_word-2-via-else-has_word-2 w ↦ at_start c.args.text.now c.args.at c.requires.0 c.requires.1 _ c.has_word.ensures c.if-has_word.false _ c.has_word-2.ensures w.if-has_word-2.false _ c.has_word-3.ensures _ c.stops_at-then-has_word-3.ensures c.if-has_word-3.true c.if-stops_at-2.true
]

pub returns : goal.returns
unfolding Steps
returns c = elim c.else-has_word-2.branch [
  | else-has_word-2-via-then-has_word-2+else-stops_at w ↦ token_joined c.args.text.now c.args.at c.requires.0 c.requires.1 _ c.has_word.ensures c.if-has_word.false _ c.has_word-2.ensures _ w.stops_at.ensures w.if-has_word-2.true w.if-stops_at.false
  | else-has_word-2-via-else-has_word-2 w ↦ elim c.else-has_word-3.branch [
    | else-has_word-3-via-then-has_word-3+else-stops_at-2 v ↦ start_joined c.args.text.now c.args.at c.requires.0 c.requires.1 _ c.has_word.ensures c.if-has_word.false _ c.has_word-2.ensures w.if-has_word-2.false _ c.has_word-3.ensures _ v.stops_at-then-has_word-3.ensures v.if-has_word-3.true v.if-stops_at-2.false
    | else-has_word-3-via-else-has_word-3 v ↦ no_directive c.args.text.now c.args.at c.requires.0 c.requires.1 _ c.has_word.ensures c.if-has_word.false _ c.has_word-2.ensures w.if-has_word-2.false _ c.has_word-3.ensures v.if-has_word-3.false
  ]
]
