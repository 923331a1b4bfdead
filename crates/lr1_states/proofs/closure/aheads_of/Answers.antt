use Rattle.lr1_states.proofs.closure.Rest.{front_sized, turn_start, turn_again, turn_less}
use Rattle.lr1_states.proofs.closure.aheads_of.Goals as goal
use Rattle.lr1_base.proofs.words.Same.{same_pointwise}

pub loop-changed-init : goal.loop-changed-init
loop-changed-init c = λ T G. turn_start T G.fits _ (front_sized T _ _ c.requires.flat G.packed.few G.many)

pub loop-changed-smaller : goal.loop-changed-smaller
loop-changed-smaller c = let T = c.requires.held.0 in let G = c.requires.held.1 in turn_less T _ _ _ _ G _ _ _ _ c.requires.flat _ _ _ (c.loop-changed.invariant T G) (c.feed_items.ensures T G) (c.feed_firsts.ensures T G) c.ne-changed.ensures (same_pointwise _ _) c.loop-changed-test.true

pub loop-changed-preserved : goal.loop-changed-preserved
loop-changed-preserved c = λ T G. turn_again T _ _ _ _ G _ _ _ _ c.requires.flat _ _ _ (c.loop-changed.invariant T G) (c.feed_items.ensures T G) (c.feed_firsts.ensures T G) c.ne-changed.ensures (same_pointwise _ _)

pub returns : goal.returns
returns c = λ T G. (c.loop-changed.invariant T G).done c.loop-changed-test.false
