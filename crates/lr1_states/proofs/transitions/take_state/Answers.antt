use Prim.{tt}
use Rattle.std.proofs.Common.{refl}
use Rattle.lr1_states.specs.transitions.Taking.{TakenAs}
use Rattle.lr1_states.proofs.transitions.take_state.Goals as goal

pub returns-in-Ok : goal.returns-in-Ok
returns-in-Ok c = (c.in-Ok.ensures.0, tt, c.in-Ok.ensures.1)

pub returns-in-Err : goal.returns-in-Err
unfolding TakenAs
returns-in-Err c = (c.in-Err.ensures.0, (refl, refl), c.in-Err.ensures.1)
