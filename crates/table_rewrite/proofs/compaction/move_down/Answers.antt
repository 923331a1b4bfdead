use mathlib.Core.Path.{◌≡◌, ◌∙◌}
use Rattle.table.proofs.Accepted.{accepts}
use Rattle.table_rewrite.proofs.compaction.Numbering.{numbers-yes, numbers_no}
use Rattle.table_rewrite.proofs.compaction.InPlace.{closing_start, closing_skip, closing_put, closing_reads}
use native.Mathlib.Omega.{arith}
use Rattle.table_rewrite.proofs.compaction.move_down.Goals as goal
use Rattle.table_rewrite.proofs.compaction.move_down.Goals.{then-number-ne0, else-number-ne0}

pub loop-r-init : goal.loop-r-init
loop-r-init c = let P = c.requires.table_value.1 in rw P.loose_at (closing_start _)

pub bounds-numbers-r : goal.bounds-numbers-r
bounds-numbers-r c = omega (arith, c.requires.table_value.1.few, c.requires.numbers.long)

pub overflow_cast-number : goal.overflow_cast-number
overflow_cast-number c = omega (arith, c.type_inv.numbers c.loop-r.r)

pub move_record-requires : goal.move_record-requires
move_record-requires c = let whole = closing_reads _ (accepts _ c.requires.table_value.0) _ _ _ c.requires.numbers c.loop-r.invariant c.if-number-ne0.true in
    record { r_lt_record_limit = whole.0; number_lt_record_limit = whole.1.0; r_in_bounds = whole.1.1 }

pub loop-r-preserved : goal.loop-r-preserved
loop-r-preserved c = let A = accepts _ c.requires.table_value.0 in
    let C = c.loop-r.invariant in
    elim c.if-number-ne0.branch [
      | then-number-ne0 w ↦
          let R = numbers-yes _ _ c.requires.numbers _ w.if-number-ne0.true in
          rw (w.table-is, w.move_record.ensures) (closing_put _ A _ _ _ _ c.requires.numbers R (c.requires.numbers.new _ R) C)
      | else-number-ne0 w ↦ rw w.table-is (closing_skip _ _ _ (numbers_no _ _ c.requires.numbers _ w.if-number-ne0.false) C)
    ]

pub returns : goal.returns
returns c = let P = c.requires.table_value.1 in
    let e : c.loop-r.r ≡ c.args.a.records = omega (arith, P.room) in
    rw (e ∙ P.records) at c.loop-r.invariant
