use mathlib.Core.Path.{sym, ◌∙◌}
use Rattle.table.proofs.Accepted.{accepts}
use Rattle.table_rewrite.proofs.compaction.Numbering.{heads_none, heads_zero, heads_put, head_at, reached-below}
use native.Mathlib.Omega.{arith}
use Rattle.table_rewrite.proofs.compaction.mark_heads.Goals as goal
use Rattle.table_rewrite.proofs.compaction.mark_heads.Goals.{then-x-ne0, else-x-ne0}

pub loop-r-init : goal.loop-r-init
loop-r-init c = heads_none _ _ _ _

pub word-x-requires : goal.word-x-requires
word-x-requires c = let A = accepts _ c.args.table.accepted in omega (arith, A.words, A.few_records, A.areas)

pub bounds-numbers-x : goal.bounds-numbers-x
bounds-numbers-x c = let A = accepts _ c.args.table.accepted in
    let b = reached-below _ A _ (head_at _ _ _ _ _ _ c.requires.first_le_past.1.1.1 c.loop-r.auto.r c.loop-r-test.true c.word-x.ensures.0 c.if-x-ne0.true) in
    omega (arith, b, c.told-numbers)

pub loop-r-preserved : goal.loop-r-preserved
loop-r-preserved c = let A = accepts _ c.args.table.accepted in
    let H = c.loop-r.invariant in
    elim c.if-x-ne0.branch [
      | then-x-ne0 w ↦
          let R = head_at _ _ _ _ _ _ c.requires.first_le_past.1.1.1 c.loop-r.auto.r c.loop-r-test.true c.word-x.ensures.0 w.if-x-ne0.true in
          let b = reached-below _ A _ R in
          rw w.numbers-is (heads_put _ _ _ _ _ _ H _ c.word-x.ensures.0 (omega (arith, b, c.told-numbers)) R)
      | else-x-ne0 w ↦ rw w.numbers-is (heads_zero _ _ _ _ _ _ H (sym c.word-x.ensures.0 ∙ w.if-x-ne0.false))
    ]
