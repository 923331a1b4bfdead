use Rattle.std.proofs.Common.{◌∙◌, arith}
use Rattle.lr1_states.proofs.state_list.Kept.{unpack_start, unpack-more, unpack_end}
use Rattle.lr1_states.proofs.state_list.unpack.Goals as goal

pub loop-stored-init : goal.loop-stored-init
loop-stored-init c = let r = c.requires.from_le_past in
    rw c.into_iter-stored-iterator.ensures.into_iter_gives (c.chunks_exact-stored-items.ensures.size, rw c.chunks_exact-stored-items.ensures.rest (unpack_start _ _ _ r.0 r.2 c.requires.by_index))

pub offset_bounds-map-item : goal.offset_bounds-map-item
offset_bounds-map-item c = let s = c.in-Some.ensures.steps in
    let u = unpack-more _ _ _ _ _ _ (s.1.1 ∙ c.loop-stored.invariant.0) (rw s.1.0 at c.loop-stored.invariant.1) c.of-item.ensures.0 in omega (arith, u.0)

pub bounds-map-item : goal.bounds-map-item
bounds-map-item c = let s = c.in-Some.ensures.steps in
    let u = unpack-more _ _ _ _ _ _ (s.1.1 ∙ c.loop-stored.invariant.0) (rw s.1.0 at c.loop-stored.invariant.1) c.of-item.ensures.0 in u.0

pub loop-stored-preserved : goal.loop-stored-preserved
loop-stored-preserved c = let s = c.in-Some.ensures.steps in
    let u = unpack-more _ _ _ _ _ _ (s.1.1 ∙ c.loop-stored.invariant.0) (rw s.1.0 at c.loop-stored.invariant.1) c.of-item.ensures.0 in (s.0 ∙ c.loop-stored.invariant.0, u.1)

pub returns : goal.returns
returns c = let s = c.in-None.ensures.steps in unpack_end _ _ _ (omega (arith, s.1.0, c.loop-stored.invariant.0)) c.loop-stored.invariant.1
