use mathlib.Core.Path.{sym, ◌∙◌}
use Prim.Native.Nat.{◌<◌}
use Rattle.table.proofs.Accepted.{accepts}
use Rattle.table_rewrite.proofs.compaction.Moves.{reached-place, reached-some}
use Rattle.table_rewrite.proofs.compaction.Numbering.{reached-below, next-later, numbered-last, numbered_more}
use native.Mathlib.Omega.{arith}
use Rattle.table_rewrite.proofs.compaction.number_one.Goals as goal
use Rattle.table_rewrite.proofs.compaction.number_one.Goals.{then-x-ne0, else-x-ne0}

pub word-x-requires : goal.word-x-requires
word-x-requires c = let A = accepts _ c.args.table.accepted in
    let p = reached-place _ _ c.requires.r_value.0 in
    omega (arith, p.1, A.words, A.few_records)

pub bounds-numbers-x : goal.bounds-numbers-x
bounds-numbers-x c = let A = accepts _ c.args.table.accepted in
    let l = next-later _ A _ _ c.requires.r_value.0 c.word-x.ensures.0 c.if-x-ne0.true in
    omega (arith, l.1, c.told-numbers)

pub offset_bounds-numbers-r : goal.offset_bounds-numbers-r
offset_bounds-numbers-r c = let p = reached-below _ (accepts _ c.args.table.accepted) _ c.requires.r_value.0 in
    omega arith

pub bounds-numbers-r : goal.bounds-numbers-r
bounds-numbers-r c = let p = reached-below _ (accepts _ c.args.table.accepted) _ c.requires.r_value.0 in
    omega arith

pub returns : goal.returns
returns c = let A = accepts _ c.args.table.accepted in
    let R = c.requires.r_value.0 in
    let b = reached-below _ A _ R in
    let s : 0 < c.args.r = let n = reached-some _ _ R in omega arith in
    elim c.if-x-ne0.branch [
      | then-x-ne0 w ↦
          let l = next-later _ A _ _ R c.word-x.ensures.0 w.if-x-ne0.true in
          rw w.numbers-is (numbered_more _ _ _ _ (omega arith) _ c.word-x.ensures.0 l.0 (omega (arith, l.1, c.told-numbers)) s)
      | else-x-ne0 w ↦ rw w.numbers-is (numbered-last _ _ _ _ (omega arith) (sym c.word-x.ensures.0 ∙ w.if-x-ne0.false) s)
    ]
