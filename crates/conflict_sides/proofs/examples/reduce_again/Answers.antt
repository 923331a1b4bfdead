use Rattle.conflict_sides.proofs.examples.Again.{reduce_listed}
use native.Mathlib.Omega.{arith}
use Rattle.conflict_sides.proofs.examples.reduce_again.Goals as goal

pub returns : goal.returns
returns c = λ label x M. (rw c.item.ensures.table at c.item_again.ensures) 0 x (omega arith) (reduce_listed _ _ _ _ label _ x _ c.item.ensures.side M)
