use Rattle.lr1_states.proofs.transitions.Edges.new.Goals as goal
use Rattle.lr1_base.proofs.laws.Lists.{zero_at}

pub returns : goal.returns
returns c = (c.new.ensures, λ k. zero_at 129 k)
