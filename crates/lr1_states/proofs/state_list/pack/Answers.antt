use Rattle.std.proofs.Common.{refl, ◌∙◌, arith, get_or}
use Rattle.lr1_states.proofs.state_list.Kept.{One, count_start, count_more, count_end, one_long, one_counts, one_room, pack-start, pack-more, pack_end}
use Rattle.lr1_states.proofs.state_list.pack.Goals as goal
use Rattle.lr1_states.proofs.state_list.pack.Goals.{then-set-ne0, else-set-ne0}

pub loop-place-init : goal.loop-place-init
loop-place-init c = (refl, count_start c.args.state.now _, pack-start c.args.state.now _ _)

pub write_item-requires : goal.write_item-requires
write_item-requires c =
    let lt = c.loop-place-test.true in
    let room = one_room c.args.state.now _ _ _ _ _ lt refl c.loop-place.invariant.1 c.if-set-ne0.true in
    (omega (arith, room, c.requires.2), omega (arith, room, c.requires.2, c.requires.1, c.loop-place.invariant.0), omega (arith, lt, c.requires.0))

pub loop-place-preserved : goal.loop-place-preserved
loop-place-preserved c =
    let s = get_or c.args.state.now c.loop-place.place 0 in
    let f : One c.loop-place.words c.if-set-ne0.words c.loop-place.many c.loop-place.place s c.if-set-ne0.many =
    elim c.if-set-ne0.branch [
      | then-set-ne0 w ↦ (λ z. absurd (w.if-set-ne0.true z), λ z. (w.many-is, w.words-is ∙ w.write_item.ensures))
      | else-set-ne0 w ↦ (λ z. (w.many-is, w.words-is), λ z. absurd (z w.if-set-ne0.false))
    ] in (
      one_long _ _ _ _ _ _ f ∙ c.loop-place.invariant.0,
      count_more c.args.state.now _ _ _ _ _ _ c.loop-place-test.true refl (one_counts _ _ _ _ _ _ f) c.loop-place.invariant.1,
      pack-more c.args.state.now _ _ _ _ _ _ _ _ c.loop-place-test.true refl f c.loop-place.invariant.2,
    )

pub returns : goal.returns
returns c = (count_end c.args.state.now _ _ _ _ c.loop-place-test.false c.loop-place.invariant.1, pack_end c.args.state.now _ _ _ _ _ c.loop-place-test.false c.loop-place.invariant.2)
