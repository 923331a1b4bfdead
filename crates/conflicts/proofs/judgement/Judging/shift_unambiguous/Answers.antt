use Rattle.conflicts.proofs.judgement.Ways.{judges_same, judges_heads}
use Rattle.conflicts.proofs.judgement.Sides.{table_fits, conflict_production, reads_owner, question_some, question_none}
use native.Mathlib.Omega.{arith}
use Rattle.conflicts.proofs.judgement.Judging.shift_unambiguous.Goals as goal

pub owner-nonterminal-requires : goal.owner-nonterminal-requires
owner-nonterminal-requires c = let R = c.args.self.case.given.reads in let p = conflict_production _ c.args.self.case.conflict c.args.self.case.fits in omega (arith, p, R.many)

pub try_classify_question-requires : goal.try_classify_question-requires
try_classify_question-requires c = (reads_owner _ _ _ _ _ _ _ c.args.self.case.given.reads c.args.self.case.conflict.production.0 (conflict_production _ c.args.self.case.conflict c.args.self.case.fits) _ c.owner-nonterminal.ensures).1

pub with_heads-requires : goal.with_heads-requires
with_heads-requires c = let P = c.requires.sides in (P.1.1.1.0.any, P.1.1.1.1.any)

pub try_classify_inline-requires : goal.try_classify_inline-requires
try_classify_inline-requires c = record { action_value = c.requires.action_value; sides = c.requires.sides }

pub returns-in-Some : goal.returns-in-Some
returns-in-Some c = λ xs ys K A B. let R = c.args.self.case.given.reads in judges_heads xs ys c.args.self.actions.order.now c.args.self.reduces.order.now A.inside A.any B.inside B.any _ _ _ c.with_heads.ensures (question_some _ c.args.self.case.conflict xs ys _ _ _ _ K c.args.self.actions.order.now c.args.self.reduces.order.now A B c.args.self.case.conflict.production.0 _ (reads_owner _ _ _ _ _ _ _ R c.args.self.case.conflict.production.0 (conflict_production _ c.args.self.case.conflict c.args.self.case.fits) _ c.owner-nonterminal.ensures).0 _ c.try_classify_question.ensures _ _ _ c.in-Some.is c.words-kind.ensures.0 c.words-kind.ensures.1)

pub returns-in-None : goal.returns-in-None
returns-in-None c = λ xs ys K A B. let R = c.args.self.case.given.reads in judges_same xs ys _ _ _ (c.try_classify_inline.ensures xs ys K A B) (question_none _ c.args.self.case.conflict xs ys _ _ _ _ K c.args.self.actions.order.now c.args.self.reduces.order.now A B c.args.self.case.conflict.production.0 _ (reads_owner _ _ _ _ _ _ _ R c.args.self.case.conflict.production.0 (conflict_production _ c.args.self.case.conflict c.args.self.case.fits) _ c.owner-nonterminal.ensures).0 _ c.try_classify_question.ensures c.in-None.is)

pub overflow_cast-own : goal.overflow_cast-own
overflow_cast-own c =
    let R = c.args.self.case.given.reads in
    let inside = (reads_owner _ _ _ _ _ _ _ R c.args.self.case.conflict.production.0 (conflict_production _ c.args.self.case.conflict c.args.self.case.fits) _ c.owner-nonterminal.ensures).1 in
    omega (arith, inside, (table_fits _ _ _ _ _ _ _ R).few_nonterminals)
