use Rattle.conflicts.proofs.judgement.Ways.{judges_same}
use Rattle.conflicts.proofs.judgement.Sides.{pair_inside, judge-pair, judge-none}
use Rattle.conflicts.proofs.judgement.Judging.judge.Goals as goal

pub ambiguity-requires : goal.ambiguity-requires
ambiguity-requires c = let P = c.requires in (P.0, (P.1.0, (P.1.1.0, pair_inside _ c.args.self.case.conflict P.0 P.1.0 _ _ _ _ P.1.1.0 c.args.self.actions.order.now c.args.self.reduces.order.now P.1.1.1.0 P.1.1.1.1 _ (c.try_classify_ambiguity.ensures P.0 P.1.0 P.1.1.0 P.1.1.1.0 P.1.1.1.1) _ _ c.in-Some.is)))

pub returns-in-Some : goal.returns-in-Some
returns-in-Some c = λ xs ys K A B. let E = c.try_classify_ambiguity.ensures xs ys K A B in let I = pair_inside _ c.args.self.case.conflict xs ys _ _ _ _ K c.args.self.actions.order.now c.args.self.reduces.order.now A B _ E _ _ c.in-Some.is in judges_same xs ys _ _ _ (c.ambiguity.ensures xs ys K I.0 I.1) (judge-pair _ c.args.self.case.conflict xs ys _ _ _ _ K c.args.self.actions.order.now c.args.self.reduces.order.now A B _ E _ _ c.in-Some.is)

pub returns-in-None : goal.returns-in-None
returns-in-None c = λ xs ys K A B. judges_same xs ys _ _ _ (c.unambiguous.ensures xs ys K A B) (judge-none _ c.args.self.case.conflict xs ys _ _ _ _ K c.args.self.actions.order.now c.args.self.reduces.order.now A B _ (c.try_classify_ambiguity.ensures xs ys K A B) c.in-None.is)
