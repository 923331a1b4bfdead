use Rattle.std.proofs.Common.{sym, ◌∙◌, eqb-true}
use borrow.Author.Tests.{eqb-false}
use Rattle.conflicts.proofs.judgement.Ways.{judges_same, judges_heads}
use Rattle.conflicts.proofs.judgement.Sides.{unambiguous_shift, unambiguous_reduce}
use Rattle.conflicts.proofs.judgement.Judging.unambiguous.Goals as goal

pub shift_unambiguous-requires : goal.shift_unambiguous-requires
shift_unambiguous-requires c = record { action_value = eqb-true _ _ (sym c.is_shift.ensures ∙ c.if-is_shift.true); sides = c.requires }

pub returns-then-is_shift : goal.returns-then-is_shift
returns-then-is_shift c = λ xs ys K A B. judges_same xs ys _ _ _ (c.shift_unambiguous.ensures xs ys K A B) (unambiguous_shift _ _ _ _ _ _ (eqb-true _ _ (sym c.is_shift.ensures ∙ c.if-is_shift.true)))

pub with_heads-requires : goal.with_heads-requires
with_heads-requires c = let P = c.requires in (P.1.1.1.0.any, P.1.1.1.1.any)

pub returns-else-is_shift : goal.returns-else-is_shift
returns-else-is_shift c = λ xs ys K A B. judges_heads xs ys c.args.self.actions.order.now c.args.self.reduces.order.now A.inside A.any B.inside B.any _ _ _ c.with_heads.ensures (unambiguous_reduce _ _ _ _ _ _ (eqb-false _ _ (sym c.is_shift.ensures ∙ c.if-is_shift.false)))
