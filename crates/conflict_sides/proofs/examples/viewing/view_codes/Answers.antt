use Rattle.std.proofs.Common.{arith}
use Rattle.trace.proofs.edge_codes.Writing.{carried_few, carried_code}
use Rattle.conflict_sides.proofs.examples.Views.{making_first, making_source, making_target, making_place, making_packed, making_low, making_more, making_done}
use Rattle.conflict_sides.proofs.examples.viewing.view_codes.Goals as goal

pub word-count-requires : goal.word-count-requires
word-count-requires c = let C = c.requires.carried.1.1.1 in omega (arith, C.long)

pub loop-k-init : goal.loop-k-init
loop-k-init c = making_first c.requires.blank.3 c.requires.blank.0 c.requires.blank.1 c.requires.blank.2

pub word-requires : goal.word-requires
word-requires c = let C = c.requires.carried.1.1.1 in omega (arith, C.long, C.few, C.count, c.loop-k-test.true, c.word-count.ensures.0)

pub edge_of-edge-requires : goal.edge_of-edge-requires
edge_of-edge-requires c = carried_code c.requires.carried (omega (arith, c.loop-k-test.true, c.word-count.ensures.0)) _ c.word.ensures.0

pub source-requires : goal.source-requires
source-requires c = making_source (omega (arith, c.loop-k-test.true, c.word-count.ensures.0)) c.word.ensures.0 c.edge_of-edge.result c.edge_of-edge.ensures.1 c.requires.carried

pub slot-requires : goal.slot-requires
slot-requires c = making_target (omega (arith, c.loop-k-test.true, c.word-count.ensures.0)) c.word.ensures.0 c.edge_of-edge.result c.edge_of-edge.ensures.1 c.requires.carried

pub put-requires : goal.put-requires
put-requires c = (carried_few c.requires.carried (omega (arith, c.loop-k-test.true, c.word-count.ensures.0)), c.source.ensures.1, c.slot.ensures.1)

pub bounds-lists-k : goal.bounds-lists-k
bounds-lists-k c = let C = c.requires.carried.1.1.1 in omega (arith, c.loop-k.invariant.by_owner, C.few, C.count, c.loop-k-test.true, c.word-count.ensures.0)

pub overflow_cast-lists : goal.overflow_cast-lists
overflow_cast-lists c = omega (arith, making_low (omega (arith, c.loop-k-test.true, c.word-count.ensures.0)) c.word.ensures.0 c.edge_of-edge.result c.edge_of-edge.ensures.1 c.requires.carried _ c.owner-owner.ensures)

pub overflow_add-own : goal.overflow_add-own
overflow_add-own c = let l = making_place (omega (arith, c.loop-k-test.true, c.word-count.ensures.0)) c.word.ensures.0 c.edge_of-edge.result c.edge_of-edge.ensures.1 c.requires.carried in omega (arith, l, c.requires.carried.1.1.1.packed.few)

pub invariant_of-own : goal.invariant_of-own
invariant_of-own c = record { packed = making_packed (omega (arith, c.loop-k-test.true, c.word-count.ensures.0)) c.word.ensures.0 c.edge_of-edge.result c.edge_of-edge.ensures.1 c.requires.carried }

pub loop-k-preserved : goal.loop-k-preserved
loop-k-preserved c = making_more (omega (arith, c.loop-k-test.true, c.word-count.ensures.0)) c.word.ensures.0 c.edge_of-edge.result c.edge_of-edge.ensures.1 c.loop-k.invariant (carried_few c.requires.carried (omega (arith, c.loop-k-test.true, c.word-count.ensures.0))) c.source.ensures.0 c.source.ensures.1 c.slot.ensures.0 c.slot.ensures.1 c.put.ensures.sources c.put.ensures.older c.put.ensures.latest c.put.ensures.owners c.owner-owner.ensures

pub returns : goal.returns
returns c = making_done c.loop-k.invariant (omega (arith, c.loop-k-test.false, c.word-count.ensures.0))
