use Rattle.std.proofs.Common.{arith}
use Rattle.lr1_states.proofs.closure.Rest.{spread_none, spread-more, spread_end}
use Rattle.lr1_states.proofs.closure.spread.Goals as goal

pub loop-production-init : goal.loop-production-init
loop-production-init c = spread_none _ _ _

pub bounds-aheads-owner : goal.bounds-aheads-owner
bounds-aheads-owner c = omega (arith, c.args.grammar.packed.owner _ c.loop-production-test.true, c.owner.ensures)

pub loop-production-preserved : goal.loop-production-preserved
loop-production-preserved c = spread-more _ _ _ _ _ _ _ _ c.loop-production.invariant c.owner.ensures c.place-place.ensures.is c.union.ensures.is

pub returns : goal.returns
returns c = spread_end _ _ _ _ _ _ c.loop-production.auto.production-end c.loop-production-test.false c.loop-production.invariant
