use Rattle.std.proofs.Common.{sym, eqb-true, ◌∙◌}
use borrow.Author.Tests.{eqb-false}
use Rattle.conflicts.proofs.choice.Choices.{count_shift, count_first}
use Rattle.conflicts.proofs.choice.naive_chosen.Goals as goal

pub returns-then-is_shift : goal.returns-then-is_shift
returns-then-is_shift c = count_shift _ _ (eqb-true _ _ (sym c.is_shift.ensures ∙ c.if-is_shift.true))

pub returns-else-is_shift : goal.returns-else-is_shift
returns-else-is_shift c = count_first c.args.conflict.action c.args.count _ (eqb-false _ _ (sym c.is_shift.ensures ∙ c.if-is_shift.false)) c.min.ensures
