use Rattle.std.proofs.Common.{◌≡◌, ◌≤◌, true, false, All, length, take, sym, ◌∙◌, refl, arith}
use Rattle.std.proofs.lemmas.List.{take_all}
use Rattle.std.proofs.lemmas.Bool.{OnFalse_from}
use Rattle.certificate.specs.Sets.{PassesOn}
use Rattle.certificate.proofs.Rounds.{passes_more}
use Rattle.certificate.proofs.useful.reach_all.Goals as goal
use Rattle.certificate.proofs.useful.reach_all.Goals.{then-reach, else-reach}

pub loop-production-preserved : goal.loop-production-preserved
loop-production-preserved c =
    let i = c.loop-production.production-index in
    let inv = c.loop-production.invariant in
    let p = c.production-item.result in
    record {
      len = c.reach.ensures.len ∙ inv.len;
      keeps = λ n h. c.reach.ensures.keeps n (inv.keeps n h);
      sound = λ productive s.
          c.reach.ensures.sound c.args.productions.now
          (record { production = p; listed = (i, c.loop-production-test.true, sym c.production-item.is); left_side = refl; right_side = refl })
          productive (inv.sound productive s);
      closed = λ e. elim c.if-reach.branch [
        | then-reach w ↦ let bad : true ≡ false = sym w.changed-is ∙ e in cc
        | else-reach w ↦
            passes_more c.args.productions.now c.args.productive.now c.loop-production.set c.reach.new.set w.if-reach.ensures.same i c.loop-production-test.true p c.production-item.is
            w.if-reach.ensures.closed (inv.closed (sym w.changed-is ∙ e))
      ];
      few = omega (arith, c.reach.ensures.room.0, inv.few);
      less = λ e. elim c.if-reach.branch [
        | then-reach w ↦ omega (arith, w.if-reach.ensures.room.1, inv.few)
        | else-reach w ↦ omega (arith, inv.less (sym w.changed-is ∙ e), c.reach.ensures.room.0)
      ];
    }

pub returns-clause-closed : goal.returns-clause-closed
returns-clause-closed c =
    OnFalse_from c.loop-production.changed (All (PassesOn c.args.productive.now c.loop-production.set) c.args.productions.now)
    (λ e. let enough : length c.args.productions.now ≤ c.loop-production.production-index = omega arith in rw take_all at (c.loop-production.invariant.closed e))
