use Rattle.std.proofs.Common.{sym, ◌∙◌, eqb-true}
use borrow.Author.Tests.{eqb-false}
use Rattle.conflict_sides.proofs.examples.Both.{not_shift}
use Rattle.conflict_sides.proofs.examples.Actions.{action_shift, action_reduce}
use Rattle.conflict_sides.proofs.examples.action_examples.Goals as goal

pub returns-then-is_shift : goal.returns-then-is_shift
returns-then-is_shift c = record { sided = action_shift _ _ _ _ _ (eqb-true _ _ (sym c.is_shift.ensures ∙ c.if-is_shift.true)) c.shift_examples.ensures.sided; same = c.shift_examples.ensures.same }

pub returns-else-is_shift : goal.returns-else-is_shift
returns-else-is_shift c = record { sided = action_reduce _ _ _ _ _ (eqb-false _ _ (sym c.is_shift.ensures ∙ c.if-is_shift.false)) (rw (c.reduction.ensures.table, c.reduction.ensures.parts.0, c.reduction.ensures.parts.1, c.reduction.ensures.parts.2) at c.reduce_examples.ensures.sided); same = c.reduce_examples.ensures.same }

pub reduction-requires : goal.reduction-requires
reduction-requires c = not_shift _ (sym c.is_shift.ensures ∙ c.if-is_shift.false)
