use Rattle.std.proofs.Common.{◌∙◌}
use Rattle.propagation.proofs.Passed.{started, exact_of}
use Rattle.propagation.proofs.passing.propagate.Goals as goal

pub loop-init : goal.loop-init
loop-init c =
    let s = c.spread.ensures in
    record { shape = s.shape; keeps = s.keeps; sound = s.sound c.args.table.now (started c.args.table.now c.args.edges.now) }

pub loop-preserved : goal.loop-preserved
loop-preserved c =
    let inv = c.loop.invariant in
    record {
      shape = record { rows = c.round.ensures.shape.rows ∙ inv.shape.rows; columns = c.round.ensures.shape.columns ∙ inv.shape.columns };
      keeps = λ a b h. c.round.ensures.keeps a b (inv.keeps a b h);
      sound = c.round.ensures.sound c.args.table.now inv.sound;
    }

pub returns-clause-exact : goal.returns-clause-exact
returns-clause-exact c =
    let inv = c.loop.invariant in
    exact_of c.args.table.now c.round.new.table c.args.edges.now (λ a b h. c.round.ensures.keeps a b (inv.keeps a b h)) (c.round.ensures.sound c.args.table.now inv.sound)
    c.loop-test.ensures.closed
