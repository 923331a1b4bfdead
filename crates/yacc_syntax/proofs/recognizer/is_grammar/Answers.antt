use Rattle.yacc_syntax.proofs.recognizer.Laws.{token-told, turn, turn_ends, turn_outside, judged-whole}
use native.Mathlib.Omega.{arith}
use mathlib.Core.Path.{sym, ap, ◌∙◌}
use Rattle.yacc_syntax.specs.text.Forward.{last}
use Rattle.yacc_syntax.specs.recognizer.Accepted.{mode_of}
use Rattle.yacc_syntax.proofs.recognizer.Laws.{last-other}
use Rattle.yacc_syntax.proofs.recognizer.is_grammar.Goals as goal

pub loop-lexeme-init : goal.loop-lexeme-init
loop-lexeme-init c = (omega arith, judged-whole c.args.text.now)

pub next_token-requires : goal.next_token-requires
next_token-requires c = c.loop-lexeme.invariant.0

pub loop-lexeme-smaller : goal.loop-lexeme-smaller
loop-lexeme-smaller c = let L = token-told c.args.text.now c.loop-lexeme.at _ _ c.in-Token.is c.next_token.ensures in let o = L.order in let w = L.wide in let i = L.inside in omega (arith, o, w, i)

pub loop-lexeme-preserved : goal.loop-lexeme-preserved
loop-lexeme-preserved c = let L = token-told c.args.text.now c.loop-lexeme.at _ _ c.in-Token.is c.next_token.ensures in (L.inside, turn c.args.text.now c.loop-lexeme.at _ _ c.loop-lexeme.invariant.1 _ _ _ _ L (c.moved-mode.ensures c.args.text.now c.in-Token.lexeme.from c.in-Token.lexeme.past))

pub returns-in-Outside : goal.returns-in-Outside
returns-in-Outside c = turn_outside c.args.text.now c.loop-lexeme.at _ _ c.loop-lexeme.invariant.1 _ c.in-Outside.is c.next_token.ensures

pub returns-in-Done : goal.returns-in-Done
unfolding last
returns-in-Done c = sym (ap (λ m. last (mode_of m)) c.in-Done.is) ∙ turn_ends c.args.text.now c.loop-lexeme.at _ _ c.loop-lexeme.invariant.1 _ c.in-End.is c.next_token.ensures

pub returns-in_default : goal.returns-in_default
returns-in_default c = last-other _ c.in_default.not-Done ∙ turn_ends c.args.text.now c.loop-lexeme.at _ _ c.loop-lexeme.invariant.1 _ c.in-End.is c.next_token.ensures
