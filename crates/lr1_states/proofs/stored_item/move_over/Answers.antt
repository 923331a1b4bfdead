use Rattle.std.proofs.Common.{◌-◌, refl, ◌∙◌, arith}
use Rattle.lr1_states.proofs.stored_item.Stored.{length-entries, turn_begin, turn_room, turn_next, turn_end}
use Rattle.lr1_states.proofs.stored_item.move_over.Goals as goal

pub loop-item-init : goal.loop-item-init
loop-item-init c = let r = c.requires.from_le_past in
    rw c.into_iter-item-iterator.ensures.into_iter_gives (c.chunks_exact-item-items.ensures.size, refl, rw c.chunks_exact-item-items.ensures.rest (turn_begin _ _ _ _ _ _ _ r.0 r.2 c.requires.by_index))

pub move_one-many-requires : goal.move_one-many-requires
move_one-many-requires c = let s = c.in-Some.ensures.steps in
    let l = c.loop-item.invariant in
    let t = turn_room _ _ _ _ _ _ _ _ (s.1.1 ∙ l.0) (rw s.1.0 at l.2) _ _ c.of.ensures.0 in
    let r = c.requires.from_le_past in
    let n = length-entries c.args.words.now c.args.from (c.args.past - c.args.from) in
    record { within = (t.0, c.of.ensures.1); room = (omega (arith, t.1, n, r.1), omega (arith, t.1, n, r.3, l.1)) }

pub loop-item-preserved : goal.loop-item-preserved
loop-item-preserved c = let s = c.in-Some.ensures.steps in
    let l = c.loop-item.invariant in
    (s.0 ∙ l.0, c.move_one-many.ensures.long ∙ l.1, turn_next _ _ _ _ _ _ _ _ (s.1.1 ∙ l.0) (rw s.1.0 at l.2) _ _ c.of.ensures.0 _ _ c.move_one-many.ensures)

pub returns : goal.returns
returns c = let s = c.in-None.ensures.steps in
    let l = c.loop-item.invariant in
    let t = turn_end _ _ _ _ _ _ _ (omega (arith, s.1.0, l.0)) l.2 in
    (omega (arith, t.0, length-entries c.args.words.now c.args.from (c.args.past - c.args.from)), l.1, t.1)
