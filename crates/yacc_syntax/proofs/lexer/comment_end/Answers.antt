use Rattle.yacc_syntax.proofs.lexer.Runs.{comment-over, comment-closed, comment-zero, comment-more}
use Rattle.yacc_syntax.specs.lexer.Steps.{found_at}
use Rattle.yacc_syntax.proofs.lexer.comment_end.Goals as goal

pub returns-then-closes_at : goal.returns-then-closes_at
unfolding found_at
returns-then-closes_at c = comment-closed _ _ _ c.loop-i.invariant c.loop-i-test.true _ c.closes_at.ensures c.if-closes_at.true

pub returns-then-text-i-eq0 : goal.returns-then-text-i-eq0
unfolding found_at
returns-then-text-i-eq0 c = comment-zero _ _ _ c.loop-i.invariant c.loop-i-test.true _ c.closes_at.ensures c.if-closes_at.false c.if-text-i-eq0.true

pub loop-i-preserved : goal.loop-i-preserved
loop-i-preserved c = comment-more _ _ _ c.loop-i.invariant c.loop-i-test.true _ c.closes_at.ensures c.if-closes_at.false c.if-text-i-eq0.false

pub returns : goal.returns
unfolding found_at
returns c = comment-over _ _ _ c.loop-i.invariant c.loop-i-test.false
