use Rattle.std.proofs.Common.{refl}
use Rattle.conflict_sides.proofs.outline.Keeping.{outline_read}
use Rattle.conflict_sides.proofs.outline.KeptSide.outline.Goals as goal

pub returns : goal.returns
returns c = outline_read _ _ _ _ _ _ _ c.word.ensures.0 refl c.word-2.ensures.0 c.word-3.ensures.0
