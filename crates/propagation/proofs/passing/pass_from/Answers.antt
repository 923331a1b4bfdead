use Rattle.std.proofs.Common.{◌∙◌}
use Rattle.propagation.proofs.passing.pass_from.Goals as goal

pub loop-number-preserved : goal.loop-number-preserved
loop-number-preserved c =
    let inv = c.loop-number.invariant in
    record {
      shape = record { rows = c.pass.ensures.shape.rows ∙ inv.shape.rows; columns = c.pass.ensures.shape.columns ∙ inv.shape.columns };
      keeps = λ a b h. c.pass.ensures.keeps a b (inv.keeps a b h);
      sound = λ s h. c.pass.ensures.sound s (inv.sound s h);
    }
