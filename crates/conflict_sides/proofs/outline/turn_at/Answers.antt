use Rattle.conflict_sides.proofs.outline.Keeping.{turn_read}
use Rattle.conflict_sides.proofs.outline.turn_at.Goals as goal

pub returns : goal.returns
returns c = turn_read _ _ _ c.word.ensures.0
