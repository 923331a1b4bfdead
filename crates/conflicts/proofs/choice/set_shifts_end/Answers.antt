use Rattle.std.proofs.Common.{sym, eqb-true, ◌∙◌}
use borrow.Author.Tests.{eqb-false}
use Rattle.conflicts.proofs.choice.Choices.{end_shift, end_other}
use Rattle.conflicts.proofs.choice.set_shifts_end.Goals as goal

pub returns-then-is_shift : goal.returns-then-is_shift
returns-then-is_shift c = end_shift _ _ _ _ (eqb-true _ _ (sym c.is_shift.ensures ∙ c.if-is_shift.true)) c.contains.ensures

pub returns-else-is_shift : goal.returns-else-is_shift
returns-else-is_shift c = c.if-is_shift.false ∙ end_other _ _ _ (eqb-false _ _ (sym c.is_shift.ensures ∙ c.if-is_shift.false))
