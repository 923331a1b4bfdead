use Rattle.table_rewrite.proofs.spelling.Places.{begins}
use Rattle.table_rewrite.proofs.grammar_records.Areas.{areas_at, index_small, front-start, front-room, front-step, front_end}
use mathlib.Core.Path.{◌∙◌}
use native.Mathlib.Omega.{arith}
use Rattle.table_rewrite.proofs.grammar_records.write_front.Goals as goal

pub productions_at-at-requires : goal.productions_at-at-requires
productions_at-at-requires c = let Q = c.requires in
    let A = areas_at Q.0 _ _ _ _ _ _ Q.1.0 Q.1.1 in (omega (arith, A.few), omega (arith, A.few))

pub put-requires : goal.put-requires
put-requires c = let Q = c.requires in
    let A = areas_at Q.0 _ _ _ _ _ _ Q.1.0 Q.1.1 in record { room = omega (arith, Q.1.0.room.long, begins Q.0); small = (omega (arith, A.few), (Q.1.0.small, (omega (arith, A.few), omega (arith, A.few)))) }

pub loop-n-init : goal.loop-n-init
loop-n-init c = λ U g N A P F. F

pub next_record-head-requires : goal.next_record-head-requires
next_record-head-requires c = let Q = c.requires in
    omega (arith, (areas_at Q.0 _ _ _ _ _ _ Q.1.0 Q.1.1).few, c.productions_at-at.ensures)

pub put-requires-in-loop-n : goal.put-requires-in-loop-n
put-requires-in-loop-n c = let Q = c.requires in
    let A = areas_at Q.0 _ _ _ _ _ _ Q.1.0 Q.1.1 in
    let W = c.loop-n.invariant Q.0 _ Q.1.0.nonterminals (c.productions_at-at.ensures ∙ A.begin) Q.1.1 (front-start Q.0 _ _ _ _ _ _ _ Q.1.0 Q.1.1 c.put.ensures) in record { r_lt_record_limit = front-room Q.0 _ _ _ (omega (arith, c.loop-n-test.true, Q.1.0.nonterminals)) W; a_bound = (index_small Q.0 _ _ _ _ W.room (c.next_record-head.ensures Q.0 Q.1.1 (c.productions_at-at.ensures ∙ A.begin)), (omega arith, (omega arith, omega arith))) }

pub loop-n-preserved : goal.loop-n-preserved
loop-n-preserved c = λ U g N A P F. front-step U _ _ _ (omega (arith, c.loop-n-test.true)) (c.loop-n.invariant U g N A P F) _ _ (c.next_record-head.ensures U P A) c.put-in-loop-n.ensures

pub shape_of-out : goal.shape_of-out
shape_of-out c = let Q = c.requires in
    let A = areas_at Q.0 _ _ _ _ _ _ Q.1.0 Q.1.1 in
    (c.loop-n.invariant Q.0 _ Q.1.0.nonterminals (c.productions_at-at.ensures ∙ A.begin) Q.1.1 (front-start Q.0 _ _ _ _ _ _ _ Q.1.0 Q.1.1 c.put.ensures)).grown.long

pub returns : goal.returns
returns c = λ U D P.
    let A = areas_at U _ _ _ _ _ _ D P in
    front_end U _ _ _ (omega (arith, c.loop-n-test.false, D.nonterminals)) (c.loop-n.invariant U _ D.nonterminals (c.productions_at-at.ensures ∙ A.begin) P (front-start U _ _ _ _ _ _ _ D P c.put.ensures))
