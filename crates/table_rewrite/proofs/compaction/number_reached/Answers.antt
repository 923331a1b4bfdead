use mathlib.Core.Path.{◌≡◌, ◌∙◌}
use Rattle.table.proofs.Accepted.{accepts}
use Rattle.table_rewrite.proofs.compaction.Joined.{items_asked, others_asked, numbering_begun}
use Rattle.table_rewrite.proofs.compaction.Moves.{moved_is}
use Rattle.table_rewrite.proofs.compaction.Numbering.{write_low, count_start, count_no, count_yes, numbered_no, numbered-yes, numbering_skip, numbering_put, numbering_end}
use native.Mathlib.Omega.{arith}
use Rattle.table_rewrite.proofs.compaction.number_reached.Goals as goal
use Rattle.table_rewrite.proofs.compaction.number_reached.Goals.{then-numbers-r-ne0, else-numbers-r-ne0}

pub mark_heads-requires : goal.mark_heads-requires
mark_heads-requires c = record { first_le_past = rw (c.items.ensures.0, c.items.ensures.1.0, c.items.ensures.1.1) (items_asked _ _ (accepts _ c.args.table.accepted) c.requires.areas) }

pub mark_heads-requires-2 : goal.mark_heads-requires-2
mark_heads-requires-2 c = record { first_le_past = rw (c.others.ensures.0, c.others.ensures.1.0, c.others.ensures.1.1) (others_asked _ _ (accepts _ c.args.table.accepted) c.requires.areas) }

pub loop-r-init : goal.loop-r-init
loop-r-init c =
    let n = count_start _ _ _ c.requires.areas.loose_at (numbering_begun _ _ (accepts _ c.args.table.accepted) c.requires.areas _ _ _ c.requires.numbers_value (rw (c.items.ensures.0, c.items.ensures.1.0, c.items.ensures.1.1) at c.mark_heads.ensures) (rw (c.others.ensures.0, c.others.ensures.1.0, c.others.ensures.1.1) at c.mark_heads-2.ensures)) in
    record { count = n.0; numbering = n.1; long = c.mark_heads-2.ensures.long ∙ c.mark_heads.ensures.long ∙ c.told-numbers }

pub bounds-numbers-r : goal.bounds-numbers-r
bounds-numbers-r c = omega (arith, c.requires.areas.few, c.told-numbers)

pub number_one-requires : goal.number_one-requires
number_one-requires c = let I = c.loop-r.invariant in
    let w = write_low c.args.table.words.now c.loop-r.r (omega (arith, c.requires.areas.loose_at)) in
    record { r_value = (numbered-yes _ _ _ I.numbering c.if-numbers-r-ne0.true, omega (arith, c.requires.areas.few, w, I.count)) }

pub overflow_add-count : goal.overflow_add-count
overflow_add-count c = let I = c.loop-r.invariant in
    let w = write_low c.args.table.words.now c.loop-r.r (omega (arith, c.requires.areas.loose_at)) in
    omega (arith, c.requires.areas.few, w, I.count)

pub loop-r-preserved : goal.loop-r-preserved
loop-r-preserved c = let A = accepts _ c.args.table.accepted in
    let I = c.loop-r.invariant in
    let K = I.numbering in
    elim c.if-numbers-r-ne0.branch [
      | then-numbers-r-ne0 w ↦
          let R = numbered-yes _ _ _ K w.if-numbers-r-ne0.true in
          let m = moved_is _ _ R in
          let N = w.number_one.ensures in
          rw (w.numbers-is, w.count-is) (record { count = rw (count_yes _ _ R) (omega (arith, I.count)); numbering = numbering_put _ _ _ K A _ _ R (omega (arith, m, I.count)) N; long = N.long ∙ I.long })
      | else-numbers-r-ne0 w ↦ rw (w.numbers-is, w.count-is) (record { count = rw (count_no _ _ (numbered_no _ _ _ K w.if-numbers-r-ne0.false)) I.count; numbering = numbering_skip _ _ _ K w.if-numbers-r-ne0.false; long = I.long })
    ]

pub returns : goal.returns
returns c = let I = c.loop-r.invariant in
    let e : c.loop-r.r ≡ c.args.a.records = omega (arith, c.requires.areas.room) in
    numbering_end _ _ _ _ (e ∙ c.requires.areas.records) I.count I.long I.numbering
