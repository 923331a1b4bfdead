use Rattle.std.proofs.Common.{arith}
use Rattle.trace.proofs.Exchanging.{listed-over, turned}
use Rattle.trace.proofs.tails.list_tail.Goals as goal

pub relist-requires : goal.relist-requires
relist-requires c = record { on = c.requires.on; records_len = (omega arith, omega arith, c.requires.two_tails.other_usable) }

pub returns-else-relist : goal.returns-else-relist
returns-else-relist c = listed-over _ _ _ _ _ _ _ c.requires.two_tails c.relist.auto.records c.relist.auto.links c.relist.ensures

pub returns-then-relist : goal.returns-then-relist
returns-then-relist c = turned _ _ _ _ _ (listed-over _ _ _ _ _ _ _ c.requires.two_tails c.relist.auto.records c.relist.auto.links c.relist.ensures) _ _ _ _ c.swap_with_slice.ensures.after c.swap_with_slice-then-relist.ensures.after c.swap_with_slice.ensures.other_after c.swap_with_slice-then-relist.ensures.other_after
