use Rattle.table_rewrite.proofs.spelling.Areas.{head_small}
use Rattle.table_rewrite.proofs.grammar_records.Packed.{row_of, many_of, packed-inside}
use Rattle.table_rewrite.proofs.grammar_records.Areas.{areas_at, index_small, rows_start, rows_room, rows_head, rows_step, rows_end}
use mathlib.Core.Path.{◌∙◌}
use Rattle.lr1_base.proofs.repr.Parts.{symbols_long}
use native.Mathlib.Omega.{arith}
use Rattle.table_rewrite.proofs.grammar_records.write_productions.Goals as goal

pub productions_at-at-requires : goal.productions_at-at-requires
productions_at-at-requires c = let Q = c.requires in
    let A = areas_at Q.0 _ _ _ _ _ _ Q.1.0 Q.1.1 in (omega (arith, A.few), omega (arith, A.few))

pub overflow_add-y : goal.overflow_add-y
overflow_add-y c = let Q = c.requires in
    omega (arith, (areas_at Q.0 _ _ _ _ _ _ Q.1.0 Q.1.1).few, c.productions_at-at.ensures)

pub loop-p-init : goal.loop-p-init
loop-p-init c = λ U A Y P R. rows_start U _ _ _ A Y R

pub next_record-next-requires : goal.next_record-next-requires
next_record-next-requires c = let Q = c.requires in
    omega (arith, (areas_at Q.0 _ _ _ _ _ _ Q.1.0 Q.1.1).few, c.productions_at-at.ensures)

pub overflow_add-at : goal.overflow_add-at
overflow_add-at c = let Q = c.requires in
    let A = areas_at Q.0 _ _ _ _ _ _ Q.1.0 Q.1.1 in
    omega (arith, c.loop-p-test.true, A.few, c.productions_at-at.ensures)

pub put-requires : goal.put-requires
put-requires c = let Q = c.requires in
    let A = areas_at Q.0 _ _ _ _ _ _ Q.1.0 Q.1.1 in
    let W = c.loop-p.invariant Q.0 (c.productions_at-at.ensures ∙ A.begin) (omega (arith, c.productions_at-at.ensures, A.end)) Q.1.1 Q.1.0.room in
    let h = packed-inside Q.0 _ _ _ Q.1.1 c.loop-p-test.true in record { r_lt_record_limit = rows_room Q.0 _ _ _ _ _ h W; a_bound = (index_small Q.0 _ _ _ _ W.room (c.next_record-next.ensures Q.0 Q.1.1 (c.productions_at-at.ensures ∙ A.begin)), (head_small _ _ _ (rows_head Q.0 _ _ _ _ _ h W) c.head_of-head.ensures, (omega (arith, c.span-start.type_inv), omega (arith, c.span-start.type_inv)))) }

pub overflow_add-y-in-loop-p : goal.overflow_add-y-in-loop-p
overflow_add-y-in-loop-p c = let Q = c.requires in
    let A = areas_at Q.0 _ _ _ _ _ _ Q.1.0 Q.1.1 in
    omega (arith, rows_head Q.0 _ _ _ _ _ (packed-inside Q.0 _ _ _ Q.1.1 c.loop-p-test.true) (c.loop-p.invariant Q.0 (c.productions_at-at.ensures ∙ A.begin) (omega (arith, c.productions_at-at.ensures, A.end)) Q.1.1 Q.1.0.room), c.length-many.ensures.short)

pub loop-p-preserved : goal.loop-p-preserved
loop-p-preserved c = λ U A Y P R. rows_step U _ _ _ _ _ (packed-inside U _ _ _ P c.loop-p-test.true) (c.loop-p.invariant U A Y P R) _ _ _ _ _ _ _ _ (row_of U _ _ _ P c.loop-p-test.true) c.owner-owner.ensures (c.next_record-next.ensures U P A) (c.length-many.ensures.is ∙ symbols_long _ _ _ c.args.grammar.packed c.loop-p-test.true) c.span-start.ensures.0 c.span-start.ensures.1 c.head_of-head.ensures c.put.ensures

pub shape_of-out : goal.shape_of-out
shape_of-out c = let Q = c.requires in
    let A = areas_at Q.0 _ _ _ _ _ _ Q.1.0 Q.1.1 in
    (c.loop-p.invariant Q.0 (c.productions_at-at.ensures ∙ A.begin) (omega (arith, c.productions_at-at.ensures, A.end)) Q.1.1 Q.1.0.room).grown.long

pub returns : goal.returns
returns c = λ U D P.
    let A = areas_at U _ _ _ _ _ _ D P in
    rows_end U _ _ _ _ _ (omega (arith, c.loop-p-test.false, many_of U _ _ P)) (c.loop-p.invariant U (c.productions_at-at.ensures ∙ A.begin) (omega (arith, c.productions_at-at.ensures, A.end)) P D.room)
