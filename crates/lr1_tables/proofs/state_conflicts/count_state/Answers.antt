use Rattle.lr1_tables.proofs.state_conflicts.Counts.{clashes_in_lem}
use Rattle.std.proofs.Common.{length, ap, ◌∙◌}
use Rattle.lr1_tables.proofs.state_conflicts.count_state.Goals as goal

pub returns : goal.returns
returns c = (c.count.ensures.1, λ T e sets G. c.count.ensures.0 ∙ rw c.new.ensures.productions (ap (λ cs. length cs) (clashes_in_lem T _ _ e sets G _ _ _ (c.new.ensures.reductions T e sets G) (c.new.ensures.shifts T e sets G))))
