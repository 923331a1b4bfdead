use Rattle.std.proofs.Common.{inl, inr}
use Rattle.certificate.proofs.Growth.{grown_productive}
use Rattle.certificate.proofs.useful.grow.Goals as goal

pub returns-clause-sound : goal.returns-clause-sound
returns-clause-sound c ps rule sound n m =
    elim (c.insert.ensures.only n m) [
      | inl k ↦ sound n k
      | inr k ↦ rw k (grown_productive c.args.set.now ps c.args.production.now.left c.args.production.now.right.items rule sound (rw c.as_slice.ensures.value at (c.has_all.ensures.0 c.if-not-has_all.false)))
    ]
