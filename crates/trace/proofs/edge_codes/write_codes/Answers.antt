use Rattle.std.proofs.Common.{◌∙◌, arith, length-set}
use Rattle.trace.proofs.edge_codes.Writing.{writing_start, carried_code, writing_few, writing_more, writing_done}
use Rattle.trace.proofs.edge_codes.write_codes.Goals as goal

pub word-count-requires : goal.word-count-requires
word-count-requires c = let C = c.requires.carried.1.1.1 in omega (arith, C.long)

pub loop-k-init : goal.loop-k-init
loop-k-init c = writing_start c.args.grammar.now c.args.words.now c.args.graph.now c.requires.room

pub word-requires : goal.word-requires
word-requires c = let C = c.requires.carried.1.1.1 in omega (arith, C.long, C.few, C.count, c.loop-k-test.true, c.word-count.ensures.0)

pub edge_of-edge-requires : goal.edge_of-edge-requires
edge_of-edge-requires c = carried_code c.requires.carried (omega (arith, c.loop-k-test.true, c.word-count.ensures.0)) _ c.word.ensures.0

pub write_edge-requires : goal.write_edge-requires
write_edge-requires c = record { k_lt_edge_limit = writing_few c.args.grammar.now c.args.words.now _ _ _ c.loop-k.invariant (omega (arith, c.requires.room, length-set c.args.graph.now 0 0)) c.requires.carried (omega (arith, c.loop-k-test.true, c.word-count.ensures.0)); small_edge = c.edge_of-edge.ensures.0 }

pub bounds-graph-0-in-loop-k : goal.bounds-graph-0-in-loop-k
bounds-graph-0-in-loop-k c = omega (arith, c.write_edge.auto.graph, c.loop-k.invariant.long, c.requires.room, length-set c.args.graph.now 0 0)

pub loop-k-preserved : goal.loop-k-preserved
loop-k-preserved c = writing_more c.args.grammar.now c.args.words.now _ _ _ c.loop-k.invariant (omega (arith, c.requires.room, length-set c.args.graph.now 0 0)) (writing_few c.args.grammar.now c.args.words.now _ _ _ c.loop-k.invariant (omega (arith, c.requires.room, length-set c.args.graph.now 0 0)) c.requires.carried (omega (arith, c.loop-k-test.true, c.word-count.ensures.0))).0 (omega (arith, c.loop-k-test.true, c.word-count.ensures.0)) _ c.word.ensures.0 _ c.edge_of-edge.ensures.1 _ c.write_edge.ensures

pub shape_of-graph : goal.shape_of-graph
shape_of-graph c = c.loop-k.invariant.long ∙ length-set c.args.graph.now 0 0

pub returns : goal.returns
returns c = writing_done c.args.grammar.now c.args.words.now c.args.graph.now _ _ c.loop-k.invariant (omega (arith, c.loop-k-test.false, c.word-count.ensures.0))
