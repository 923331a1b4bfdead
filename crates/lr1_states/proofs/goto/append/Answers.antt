use Rattle.lr1_states.proofs.goto.Laws.{stored_none, stored_some}
use Rattle.std.proofs.Common.{refl, arith}
use Rattle.lr1_states.proofs.goto.append.Goals as goal

pub returns-then-sizes-states : goal.returns-then-sizes-states
returns-then-sizes-states c = (refl, stored_none _ _ _ _ _ _ _ c.count_items.ensures.0 (omega (arith, c.if-sizes-states.true)), refl, refl)

pub returns : goal.returns
returns c = (stored_some _ _ _ _ _ _ _ _ _ c.count_items.ensures.0 (omega (arith, c.if-sizes-states.false)) c.pack.ensures.0 c.pack.ensures.1, refl)
