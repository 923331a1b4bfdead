use Rattle.std.proofs.Common.{refl, ◌∙◌, arith}
use Rattle.table_rewrite.proofs.spelling.Writing.{writing_start, writing_room, follower_small, writing_step, writing_end}
use Rattle.table_rewrite.proofs.spelling.write_chain.Goals as goal

pub loop-record-init : goal.loop-record-init
loop-record-init c = rw c.into_iter-record-iterator.ensures.into_iter_gives (refl, writing_start _ c.args.table.accepted _ _ _ c.requires.loose_index)

pub next_of-follower-requires : goal.next_of-follower-requires
next_of-follower-requires c = (writing_room _ c.args.table.accepted _ _ _ _ _ _ c.in-Some.ensures.steps.1.0 c.loop-record.invariant.1).0

pub put-requires : goal.put-requires
put-requires c = let r = writing_room _ c.args.table.accepted _ _ _ _ _ _ c.in-Some.ensures.steps.1.0 c.loop-record.invariant.1 in
    record { r_lt_record_limit = r; a_bound = (follower_small _ _ _ r.0 c.next_of-follower.ensures, (c.in-Some.record.small.0, (c.in-Some.record.small.1, c.in-Some.record.small.2))) }

pub overflow_add-at : goal.overflow_add-at
overflow_add-at c = omega (arith, (writing_room _ c.args.table.accepted _ _ _ _ _ _ c.in-Some.ensures.steps.1.0 c.loop-record.invariant.1).0)

pub loop-record-preserved : goal.loop-record-preserved
loop-record-preserved c = let s = rw c.loop-record.invariant.0 at c.in-Some.ensures.steps.1 in
    (c.in-Some.ensures.steps.0 ∙ c.loop-record.invariant.0, rw s.1 (writing_step _ c.args.table.accepted _ _ _ _ _ _ s.0 c.loop-record.invariant.1 _ _ _ _ _ s.2 s.3 s.4 s.5 c.next_of-follower.ensures _ c.put.ensures))

pub shape_of-out : goal.shape_of-out
shape_of-out c = c.loop-record.invariant.1.grown.long

pub returns : goal.returns
returns c = writing_end _ c.args.table.accepted _ _ _ _ _ _ c.in-None.ensures.steps.1 c.loop-record.invariant.1
