use Rattle.std.proofs.Common.{◌≡◌, refl, ◌∙◌, ◌+◌, ◌-◌, arith}
use Rattle.table.specs.Words.{word_at, loose_records, names}
use Rattle.table.proofs.Reached.{loose-named}
use Rattle.table_check.proofs.Passed.{tested, none_yet, head-yes, head_no}
use Rattle.table_check.proofs.mark.mark_heads.Goals as goal
use Rattle.table_check.proofs.mark.mark_heads.Goals.{then-names, else-names}

pub loop-r-init : goal.loop-r-init
loop-r-init c = let z : c.args.first - c.args.first ≡ 0 = omega arith in (omega arith, rw z (none_yet _ c.requires.1.1))

pub word-x-requires : goal.word-x-requires
word-x-requires c = let A = c.args.s.of in omega (arith, c.requires.0, c.requires.1.0, A.words, A.room, A.few, c.loop-r-test.true)

pub put-requires : goal.put-requires
put-requires c = let N = loose-named _ _ _ (tested _ _ _ _ c.loose.ensures.records c.names.ensures c.if-names.true) in
    omega (arith, N.early, c.loop-r.invariant.1.long)

pub loop-r-preserved : goal.loop-r-preserved
loop-r-preserved c =
    let P = c.loop-r.invariant.1 in
    let f = c.args.first in
    let r = c.loop-r.r in
    let x = c.word-x.result in
    let at : f + (r - f) ≡ r = omega (arith, c.loop-r.invariant.0) in
    let on : r + 1 - f ≡ r - f + 1 = omega (arith, c.loop-r.invariant.0) in
    let e : x ≡ word_at c.args.s.words.now (f + (r - f)) c.args.k = rw at c.word-x.ensures.0 in
    let m : names (loose_records c.args.s.words.now) (f + (r - f)) x ≡ c.names.result = rw at (tested _ _ _ _ c.loose.ensures.records c.names.ensures refl) in (
      omega (arith, c.loop-r.invariant.0),
      elim c.if-names.branch [
        | then-names w ↦ rw (w.marks-is, w.put.ensures, on) (head-yes P x (omega (arith, c.loop-r.invariant.0, c.loop-r-test.true)) (omega arith) e (m ∙ w.if-names.true))
        | else-names w ↦ rw (w.marks-is, on) (head_no P x e (m ∙ w.if-names.false))
      ],
    )

pub returns : goal.returns
returns c = let q : c.loop-r.r - c.args.first ≡ c.args.n = omega (arith, c.loop-r-test.false, c.loop-r.auto.r-end) in rw q at c.loop-r.invariant.1
