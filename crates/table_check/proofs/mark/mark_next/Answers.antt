use Rattle.table_check.proofs.Passed.{next-yes, next-none}
use mathlib.Core.Path.{sym, ◌∙◌}
use Rattle.table_check.proofs.mark.mark_next.Goals as goal

pub returns-then-marked-clause-by_index : goal.returns-then-marked-clause-by_index
returns-then-marked-clause-by_index c = λ t first n k e g P. rw c.put.ensures (next-yes P _ (sym c.is_set-marked.ensures ∙ c.if-marked.true) e g)

pub returns-else-marked-clause-by_index : goal.returns-else-marked-clause-by_index
returns-else-marked-clause-by_index c = λ t first n k e g P. next-none P (sym c.is_set-marked.ensures ∙ c.if-marked.false)
