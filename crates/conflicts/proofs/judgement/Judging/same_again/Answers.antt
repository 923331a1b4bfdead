use Rattle.conflict_sides.specs.outline.Kept.{nth}
use Rattle.conflict_sides.proofs.examples.Actions.{reduced-kept}
use Rattle.conflicts.proofs.judgement.Sides.{in_buffer}
use native.Mathlib.Omega.{arith}
use Rattle.conflicts.proofs.judgement.Judging.same_again.Goals as goal

pub write_example-requires : goal.write_example-requires
write_example-requires c = let P = c.requires in record { side_kept = (P.0, (P.1.1.0.action, P.1.1.1.0)); example_room_in_bounds = omega arith }

pub write_example-requires-2 : goal.write_example-requires-2
write_example-requires-2 c =
    let P = c.requires in
    rw (c.reduced.ensures.table, c.reduced.ensures.conflict) (record { side_kept = (P.1.0, (reduced-kept _ c.args.self.case.conflict P.1.0 _ _ P.1.1.0.reduce, P.1.1.1.1)); example_room_in_bounds = omega arith })

pub same_reading-requires : goal.same_reading-requires
same_reading-requires c = let P = c.requires in let K = P.1.1.0 in (_, (_, (_, (in_buffer _ _ _ _ _ _ _ c.args.self.case.given.reads (nth P.0 c.args.x) (K.action.fits c.args.x P.1.1.1.0) _ _ (c.write_example.ensures P.0 K.action P.1.1.1.0), in_buffer _ _ _ _ _ _ _ c.args.self.case.given.reads (nth P.1.0 c.args.y) (K.reduce.fits c.args.y P.1.1.1.1) _ _ ((rw (c.reduced.ensures.table, c.reduced.ensures.conflict) at c.write_example-2.ensures) P.1.0 (reduced-kept _ c.args.self.case.conflict P.1.0 _ _ K.reduce) P.1.1.1.1)))))

pub returns : goal.returns
returns c = λ xs ys K hx hy. c.same_reading.ensures _ (nth xs c.args.x) (nth ys c.args.y) (in_buffer _ _ _ _ _ _ _ c.args.self.case.given.reads (nth xs c.args.x) (K.action.fits c.args.x hx) _ _ (c.write_example.ensures xs K.action hx)) (in_buffer _ _ _ _ _ _ _ c.args.self.case.given.reads (nth ys c.args.y) (K.reduce.fits c.args.y hy) _ _ ((rw (c.reduced.ensures.table, c.reduced.ensures.conflict) at c.write_example-2.ensures) ys (reduced-kept _ c.args.self.case.conflict ys _ _ K.reduce) hy))
