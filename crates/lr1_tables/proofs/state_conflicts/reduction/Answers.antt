use Rattle.lr1_tables.proofs.state_conflicts.Laws.{reduction_is}
use Rattle.lr1_tables.proofs.state_conflicts.reduction.Goals as goal

pub returns : goal.returns
returns c = λ T e sets G. rw c.place.ensures.is (reduction_is T _ _ _ _ G _ _ _ c.requires c.length.ensures.is c.length.ensures.short)
