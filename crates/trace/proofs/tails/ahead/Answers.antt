use Rattle.std.proofs.Common.{refl}
use Rattle.trace.proofs.Passing.{further_more}
use Rattle.trace.proofs.tails.ahead.Goals as goal

pub loop-init : goal.loop-init
loop-init c = ((0, refl), c.requires)

pub returns-then-at-eq0 : goal.returns-then-at-eq0
returns-then-at-eq0 c = ((0, refl), c.requires)

pub item-at-requires : goal.item-at-requires
item-at-requires c = record { some = c.if-at-eq0.false; on = c.loop.invariant.1 }

pub loop-preserved : goal.loop-preserved
loop-preserved c = further_more _ _ _ _ _ _ c.loop.invariant c.item-at.ensures.read

pub returns : goal.returns
returns c = c.loop.invariant
