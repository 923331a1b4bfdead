use Rattle.std.proofs.Common.{refl}
use Rattle.lr1_states.proofs.state_list.Begins.new.Goals as goal
use Rattle.lr1_base.proofs.laws.Lists.{zero_at}

pub returns : goal.returns
returns c = (refl, λ k. zero_at 129 k)
