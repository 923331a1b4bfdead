use Rattle.std.proofs.Common.{refl}
use Rattle.conflict_sides.proofs.outline.Keeping.{keep_stores}
use Rattle.conflict_sides.proofs.outline.Side.keep.Goals as goal

pub returns : goal.returns
returns c = record { kept_after = keep_stores c.args.self.now.kept.now c.args.k c.args.outline c.args.turn; prints_after = refl; same = (refl, refl) }
