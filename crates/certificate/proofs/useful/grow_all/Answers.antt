use Rattle.std.proofs.Common.{◌≡◌, ◌≤◌, true, false, All, length, take, sym, ◌∙◌, refl, arith}
use Rattle.std.proofs.lemmas.List.{take_all}
use Rattle.std.proofs.lemmas.Bool.{OnFalse_from}
use Rattle.certificate.specs.Sets.{IsClosedFor}
use Rattle.certificate.proofs.Rounds.{closed_more}
use Rattle.certificate.proofs.useful.grow_all.Goals as goal
use Rattle.certificate.proofs.useful.grow_all.Goals.{then-grow, else-grow}

pub loop-production-preserved : goal.loop-production-preserved
loop-production-preserved c =
    let i = c.loop-production.production-index in
    let inv = c.loop-production.invariant in
    let p = c.production-item.result in
    record {
      len = c.grow.ensures.len ∙ inv.len;
      sound = λ s.
          c.grow.ensures.sound c.args.productions.now
          (record { production = p; listed = (i, c.loop-production-test.true, sym c.production-item.is); left_side = refl; right_side = refl })
          (inv.sound s);
      closed = λ e. elim c.if-grow.branch [
        | then-grow w ↦ let bad : true ≡ false = sym w.changed-is ∙ e in cc
        | else-grow w ↦
            closed_more c.args.productions.now c.loop-production.set c.grow.new.set w.if-grow.ensures.same i c.loop-production-test.true p c.production-item.is
            w.if-grow.ensures.closed (inv.closed (sym w.changed-is ∙ e))
      ];
      few = omega (arith, c.grow.ensures.room.0, inv.few);
      less = λ e. elim c.if-grow.branch [
        | then-grow w ↦ omega (arith, w.if-grow.ensures.room.1, inv.few)
        | else-grow w ↦ omega (arith, inv.less (sym w.changed-is ∙ e), c.grow.ensures.room.0)
      ];
    }

pub returns-clause-closed : goal.returns-clause-closed
returns-clause-closed c =
    OnFalse_from c.loop-production.changed (All (IsClosedFor c.loop-production.set) c.args.productions.now)
    (λ e. let enough : length c.args.productions.now ≤ c.loop-production.production-index = omega arith in rw take_all at (c.loop-production.invariant.closed e))
