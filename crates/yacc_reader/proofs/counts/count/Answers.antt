use mathlib.Core.Path.{sym, ◌∙◌}
use Rattle.yacc_syntax.specs.recognizer.Accepted.{mode_of}
use Rattle.yacc_syntax.proofs.recognizer.Laws.{token-told}
use Rattle.yacc_reader.proofs.events.Laws.{said-ends, said-outside}
use Rattle.yacc_reader.specs.counts.Counted.{no_counts}
use Rattle.yacc_reader.proofs.counts.Laws.{tally_all, tally_nil, tally_whole, tally_turn, zero_counts, zero_tally, roomy, within_turn}
use native.Mathlib.Omega.{arith}
use Rattle.yacc_reader.proofs.counts.count.Goals as goal

pub loop-lexeme-init : goal.loop-lexeme-init
loop-lexeme-init c = rw (zero_tally c.default-tally.result c.default-tally.ensures) (omega arith, record { alternatives = omega arith; symbols = omega arith; long = tt }, tally_whole c.args.text.now)

pub next_token-requires : goal.next_token-requires
next_token-requires c = c.loop-lexeme.invariant.0

pub add-tally-requires : goal.add-tally-requires
add-tally-requires c = roomy _ _ _ c.loop-lexeme.invariant.0 c.requires c.loop-lexeme.invariant.1

pub loop-lexeme-smaller : goal.loop-lexeme-smaller
loop-lexeme-smaller c = let L = token-told c.args.text.now c.loop-lexeme.at _ _ c.in-Token.is c.next_token.ensures in let o = L.order in let w = L.wide in let i = L.inside in omega (arith, o, w, i)

pub loop-lexeme-preserved : goal.loop-lexeme-preserved
loop-lexeme-preserved c = let L = token-told c.args.text.now c.loop-lexeme.at _ _ c.in-Token.is c.next_token.ensures in (L.inside, within_turn _ _ _ _ _ _ _ _ L c.add-tally.ensures c.loop-lexeme.invariant.1, tally_turn c.args.text.now c.loop-lexeme.at (mode_of c.loop-lexeme.mode) c.loop-lexeme.tally _ c.loop-lexeme.invariant.2 _ _ _ _ _ _ L c.said.ensures c.add-tally.ensures (c.moved-mode.ensures c.args.text.now c.in-Token.lexeme.from c.in-Token.lexeme.past))

pub returns-in-End : goal.returns-in-End
returns-in-End c = sym (tally_nil c.loop-lexeme.tally) ∙ said-ends no_counts c.args.text.now c.loop-lexeme.at (mode_of c.loop-lexeme.mode) (tally_all c.loop-lexeme.tally) _ c.loop-lexeme.invariant.2 _ c.in-End.is c.next_token.ensures

pub returns-in-Outside : goal.returns-in-Outside
returns-in-Outside c = zero_counts c.default.result c.default.ensures ∙ said-outside no_counts c.args.text.now c.loop-lexeme.at (mode_of c.loop-lexeme.mode) (tally_all c.loop-lexeme.tally) _ c.loop-lexeme.invariant.2 _ c.in-Outside.is c.next_token.ensures
