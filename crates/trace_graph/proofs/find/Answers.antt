use Rattle.std.proofs.Common.{arith}
use Rattle.trace_graph.proofs.Finds.{Sought, find_first, find_low, find-fits, find-found, find_less, find_again, find_end}
use Rattle.trace_graph.proofs.find.Goals as goal
use Rattle.trace_graph.proofs.find.Goals.{Start}

-- what the function is given
sought : (S : Start) → Sought S.args.grammar.words.now S.args.grammar.productions S.args.n S.args.graph.now S.args.ix.now S.args.k S.args.edge S.args.bucket
sought S = record { packed = S.args.grammar.packed; graph = S.requires.graphed; fits = S.requires.edge_value; bucket = S.requires.bucket_value.0; low = S.requires.bucket_value.1 }

pub word-next-requires : goal.word-next-requires
word-next-requires c = omega (arith, c.requires.graphed.index.long, c.requires.bucket_value.1)

pub loop-next-init : goal.loop-next-init
loop-next-init c = find_first (sought (goal.at.loop-next-init c).Start) c.word-next.ensures.0

pub same_edge-requires : goal.same_edge-requires
same_edge-requires c = let W = sought (goal.at.same_edge-requires c).Start in
    let T = c.loop-next.invariant in
    let h = c.loop-next-test.true in record { k_lt_edge_limit = (find_low W T h, c.requires.graphed.long); k_value = (find-fits W T h, W.fits) }

pub returns-then-same_edge : goal.returns-then-same_edge
returns-then-same_edge c = find-found (sought (goal.at.returns-then-same_edge c).Start) c.loop-next.invariant c.loop-next-test.true c.same_edge.ensures c.if-same_edge.true

pub overflow_add-next : goal.overflow_add-next
overflow_add-next c = omega (arith, find_low (sought (goal.at.overflow_add-next c).Start) c.loop-next.invariant c.loop-next-test.true)

pub word-next-requires-in-loop-next : goal.word-next-requires-in-loop-next
word-next-requires-in-loop-next c = omega (arith, c.requires.graphed.index.long, find_low (sought (goal.at.word-next-requires-in-loop-next c).Start) c.loop-next.invariant c.loop-next-test.true)

pub loop-next-smaller : goal.loop-next-smaller
loop-next-smaller c = find_less (sought (goal.at.loop-next-smaller c).Start) c.loop-next.invariant c.loop-next-test.true c.word-next-in-loop-next.ensures.0

pub loop-next-preserved : goal.loop-next-preserved
loop-next-preserved c = find_again (sought (goal.at.loop-next-preserved c).Start) c.loop-next.invariant c.loop-next-test.true c.same_edge.ensures c.if-same_edge.false c.word-next-in-loop-next.ensures.0

pub returns : goal.returns
returns c = find_end (sought (goal.at.returns c).Start) c.loop-next.invariant c.loop-next-test.false
