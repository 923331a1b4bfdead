use Rattle.table.proofs.Accepted.{accepts}
use Rattle.table_rewrite.proofs.compaction.Joined.{count_fits, follow_items_asked, follow_others_asked, closed}
use Rattle.table_rewrite.proofs.compaction.close_gaps.Goals as goal
use Rattle.table_rewrite.proofs.spelling.Areas.{sized}

pub survey-a-requires : goal.survey-a-requires
survey-a-requires c = sized _ c.requires

pub follow_heads-requires : goal.follow_heads-requires
follow_heads-requires c = let whole = follow_items_asked _ _ (accepts _ c.requires) c.survey-a.ensures _ _ c.number_reached-count.ensures.1 c.move_down.ensures in
    record { first_le_past = rw (c.items.ensures.0, c.items.ensures.1.0, c.items.ensures.1.1) whole.0; by_index = rw (c.items.ensures.0, c.items.ensures.1.0, c.items.ensures.1.1) whole.1 }

pub follow_heads-requires-2 : goal.follow_heads-requires-2
follow_heads-requires-2 c = let whole = follow_others_asked _ _ (accepts _ c.requires) c.survey-a.ensures _ _ c.number_reached-count.ensures.1 c.move_down.ensures _ (rw (c.items.ensures.0, c.items.ensures.1.0, c.items.ensures.1.1) at c.follow_heads.ensures) in
    record { first_le_past = rw (c.others.ensures.0, c.others.ensures.1.0, c.others.ensures.1.1) whole.0; by_index = rw (c.others.ensures.0, c.others.ensures.1.0, c.others.ensures.1.1) whole.1 }

pub free_end-requires : goal.free_end-requires
free_end-requires c = count_fits _ _ c.requires c.number_reached-count.ensures.0

pub returns : goal.returns
returns c = (
  c.number_reached-count.ensures.0,
  closed _ _ (accepts _ c.requires) c.survey-a.ensures _ _ c.number_reached-count.ensures.1 c.move_down.ensures _ (rw (c.items.ensures.0, c.items.ensures.1.0, c.items.ensures.1.1) at c.follow_heads.ensures) _ _ _ (rw (c.others.ensures.0, c.others.ensures.1.0, c.others.ensures.1.1) at c.follow_heads-2.ensures) c.number_reached-count.ensures.0 c.free_end.ensures,
)
