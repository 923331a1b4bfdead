use Rattle.std.proofs.Common.{◌≡◌, ◌≤◌, true, false, sym, ◌∙◌, arith, length}
use Rattle.std.proofs.lemmas.List.{take_all}
use Rattle.std.proofs.lemmas.List.Elements.{All-more, Contains-get_or}
use Rattle.propagation.proofs.Passed.{Passes, passed_sound, all_closed, on_false}
use Rattle.propagation.proofs.passing.round.Goals as goal
use Rattle.propagation.proofs.passing.round.Goals.{then-add_row, else-add_row}

pub loop-edge-preserved : goal.loop-edge-preserved
loop-edge-preserved c =
    let i = c.loop-edge.edge-index in
    let inv = c.loop-edge.invariant in
    let edges = c.args.edges.now in
    let start = c.args.table.now in
    record {
      shape = record { rows = c.add_row.ensures.shape.rows ∙ inv.shape.rows; columns = c.add_row.ensures.shape.columns ∙ inv.shape.columns };
      keeps = λ a b h. c.add_row.ensures.keeps a b (inv.keeps a b h);
      sound = λ s h. passed_sound s c.loop-edge.table c.add_row.new.self edges _ (Contains-get_or edges i _ (omega arith)) (inv.sound s h) c.add_row.ensures.only;
      same = λ e. elim c.if-add_row.branch [
        | then-add_row w ↦ let bad : true ≡ false = sym w.changed-is ∙ e in cc
        | else-add_row w ↦ λ a b h. inv.same (sym w.changed-is ∙ e) a b (w.if-add_row.ensures.same a b h)
      ];
      closed = λ e. elim c.if-add_row.branch [
        | then-add_row w ↦ let bad : true ≡ false = sym w.changed-is ∙ e in cc
        | else-add_row w ↦
            let quiet = sym w.changed-is ∙ e in
            All-more (Passes start) edges i _ (omega arith) (inv.closed quiet)
            (record { passes = λ k h. inv.same quiet _ k (w.if-add_row.ensures.same _ k (c.add_row.ensures.adds k (inv.keeps _ k h))) })
      ];
      few = omega (arith, c.add_row.ensures.room.0, inv.few);
      less = λ e. elim c.if-add_row.branch [
        | then-add_row w ↦ omega (arith, w.if-add_row.ensures.room.1, inv.few)
        | else-add_row w ↦ omega (arith, inv.less (sym w.changed-is ∙ e), c.add_row.ensures.room.0)
      ];
    }

pub returns-clause-closed : goal.returns-clause-closed
returns-clause-closed c =
    let inv = c.loop-edge.invariant in
    on_false c.loop-edge.changed (λ quiet.
    let enough : length c.args.edges.now ≤ c.loop-edge.edge-index = omega arith in
    let closed = all_closed c.args.edges.now c.args.table.now (rw take_all at (inv.closed quiet)) in
    λ e listed k h. inv.keeps e.to k (closed e listed k (inv.same quiet e.from k h)))
