use Rattle.std.proofs.Common.{◌∙◌}
use Rattle.propagation.proofs.passing.spread.Goals as goal

pub returns-in_err-pass_from-clause-sound : goal.returns-in_err-pass_from-clause-sound
returns-in_err-pass_from-clause-sound c s h = c.pass_from.ensures.sound s (c.loop.invariant.sound s h)

pub loop-preserved : goal.loop-preserved
loop-preserved c =
    let inv = c.loop.invariant in
    record {
      shape = record { rows = c.pass_from.ensures.shape.rows ∙ inv.shape.rows; columns = c.pass_from.ensures.shape.columns ∙ inv.shape.columns };
      keeps = λ a b h. c.pass_from.ensures.keeps a b (inv.keeps a b h);
      sound = λ s h. c.pass_from.ensures.sound s (inv.sound s h);
    }
