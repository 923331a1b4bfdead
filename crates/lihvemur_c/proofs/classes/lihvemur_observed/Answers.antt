use Rattle.std.proofs.Common.{sym, ◌∙◌}
use Rattle.lihvemur_c.proofs.Reported.{of_action, of_reduce}
use Rattle.lihvemur_c.proofs.classes.lihvemur_observed.Goals as goal

pub returns-in-Action : goal.returns-in-Action
returns-in-Action c = of_action _ _ (sym c.observed_part.ensures ∙ c.in-Action.is)

pub returns-in-Reduce : goal.returns-in-Reduce
returns-in-Reduce c = of_reduce _ _ (sym c.observed_part.ensures ∙ c.in-Reduce.is)
