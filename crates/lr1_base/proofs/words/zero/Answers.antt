use Rattle.std.proofs.Common.{refl}
use Rattle.std.proofs.Math.Seq.{length-take-le}
use Rattle.lr1_base.specs.words.Lent.{zeroed}
use Rattle.lr1_base.proofs.words.zero.Goals as goal

pub returns : goal.returns
unfolding zeroed
returns c = rw (c.fill.ensures.after (λ y e. e), length-take-le _ _ c.requires) refl
