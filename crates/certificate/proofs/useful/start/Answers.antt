use Rattle.std.proofs.Common.{inl, inr, get_or}
use Rattle.std.proofs.lemmas.Option.{slice_get-get_or}
use Rattle.certificate.proofs.Growth.{start_reached}
use Rattle.certificate.proofs.useful.start.Goals as goal

pub returns-then-productions-gt0-clause-sound : goal.returns-then-productions-gt0-clause-sound
returns-then-productions-gt0-clause-sound c sound n m =
    let ps = c.args.productions.now in
    let p = c.index-productions-0.result in
    elim (c.insert.ensures.only n m) [ inl k ↦ sound n k | inr k ↦ rw k (start_reached ps (get_or ps 0 p) (slice_get-get_or ps 0 p c.if-productions-gt0.true)) ]
