use Rattle.yacc_syntax.proofs.lexer.Laws.{gap_told, word-told, end_told, out-told}
use mathlib.Core.Path.{refl, ◌∙◌}
use Rattle.yacc_syntax.specs.lexer.Steps.{Told}
use native.Mathlib.Omega.{arith}
use Rattle.yacc_syntax.proofs.lexer.next_token.Goals as goal

pub loop-past-init : goal.loop-past-init
loop-past-init c = (omega arith, c.requires, refl)

pub piece_at-requires : goal.piece_at-requires
piece_at-requires c = c.loop-past.invariant.1

pub loop-past-smaller : goal.loop-past-smaller
loop-past-smaller c = let S = gap_told _ _ _ _ c.in-Gap.is c.piece_at.ensures in let w = S.wide in let l = S.inside in omega (arith, w, l)

pub loop-past-preserved : goal.loop-past-preserved
loop-past-preserved c = let S = gap_told _ _ _ _ c.in-Gap.is c.piece_at.ensures in let w = S.wide in (omega (arith, w, c.loop-past.invariant.0), S.inside, c.loop-past.invariant.2 ∙ S.is)

pub returns-in-Word : goal.returns-in-Word
unfolding Told
returns-in-Word c = word-told _ _ _ _ _ _ c.loop-past.invariant.0 c.loop-past.invariant.2 c.in-Word.is c.piece_at.ensures

pub returns-in-End : goal.returns-in-End
unfolding Told
returns-in-End c = end_told _ _ _ _ c.loop-past.invariant.2 c.in-End.is c.piece_at.ensures

pub returns-in-Outside : goal.returns-in-Outside
unfolding Told
returns-in-Outside c = out-told _ _ _ _ c.loop-past.invariant.2 c.in-Outside.is c.piece_at.ensures

pub invariant_of-result : goal.invariant_of-result
invariant_of-result c = record { wide = (word-told _ _ _ _ _ _ c.loop-past.invariant.0 c.loop-past.invariant.2 c.in-Word.is c.piece_at.ensures).wide }
