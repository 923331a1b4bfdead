use Rattle.std.proofs.Common.{sym, eqb-true, ◌∙◌}
use borrow.Author.Tests.{eqb-false}
use Rattle.conflicts.proofs.classification.Ways.{end_shift, end_other}
use Rattle.conflicts.proofs.classification.shifts_end.Goals as goal

pub returns-then-is_shift : goal.returns-then-is_shift
returns-then-is_shift c = end_shift _ c.args.conflict.token c.args.terminals (eqb-true _ _ (sym c.is_shift.ensures ∙ c.if-is_shift.true))

pub returns-else-is_shift : goal.returns-else-is_shift
returns-else-is_shift c = c.if-is_shift.false ∙ end_other _ c.args.conflict.token c.args.terminals (eqb-false _ _ (sym c.is_shift.ensures ∙ c.if-is_shift.false))
