use Rattle.std.proofs.Common.{◌≡◌, ◌≤◌, true, false, length, sym, ◌∙◌, refl, arith}
use Rattle.std.proofs.lemmas.List.{take_all}
use Rattle.first_sets.proofs.Grown.{closed_more, on_false}
use Rattle.first_sets.proofs.sets.FirstSets.round.Goals as goal
use Rattle.first_sets.proofs.sets.FirstSets.round.Goals.{then-grow, else-grow}

pub loop-production-preserved : goal.loop-production-preserved
loop-production-preserved c =
    let i = c.loop-production.production-index in
    let inv = c.loop-production.invariant in
    let p = c.production-item.result in
    record {
      shape = record { rows = c.grow.ensures.shape.rows ∙ inv.shape.rows; columns = c.grow.ensures.shape.columns ∙ inv.shape.columns };
      len = c.grow.ensures.len ∙ inv.len;
      sound = λ s.
          c.grow.ensures.sound c.args.productions.now
          (record { production = p; listed = (i, omega arith, sym c.production-item.is); left_side = refl; right_side = refl })
          (inv.sound s);
      closed = λ e. elim c.if-grow.branch [
        | then-grow w ↦ let bad : true ≡ false = sym w.changed-is ∙ e in cc
        | else-grow w ↦
            closed_more c.args.productions.now c.loop-production.self c.grow.new.self w.if-grow.ensures.same i (omega arith) p c.production-item.is
            w.if-grow.ensures.closed (inv.closed (sym w.changed-is ∙ e))
      ];
      few = omega (arith, c.grow.ensures.room.0, inv.few);
      less = λ e. elim c.if-grow.branch [
        | then-grow w ↦ omega (arith, w.if-grow.ensures.room.1, inv.few)
        | else-grow w ↦ omega (arith, inv.less (sym w.changed-is ∙ e), c.grow.ensures.room.0)
      ];
    }

pub returns-clause-closed : goal.returns-clause-closed
returns-clause-closed c = on_false c.loop-production.changed (λ e.
    let enough : length c.args.productions.now ≤ c.loop-production.production-index = omega arith in rw take_all at (c.loop-production.invariant.closed e))
