use Rattle.std.proofs.Common.{ℕ, length, sym, ap, ◌∙◌, true≢false, arith}
use lib.ListN.{length-replicate}
use Rattle.lr1_base.specs.repr.Packed.{productions_in}
use Rattle.trace_graph.proofs.Checks.{checked_first, checked_more, checked_all, graph_many, graph_bad}
use Rattle.trace_graph.specs.Index.{index_room}
use Rattle.trace_graph.proofs.check_graph.Goals as goal

pub word-count-requires : goal.word-count-requires
word-count-requires c = omega (arith, c.requires.n_bound.1)

pub returns-then-count-gt-EDGES : goal.returns-then-count-gt-EDGES
returns-then-count-gt-EDGES c = let A = c.args in record { value = graph_many A.n (productions_in A.grammar.words.now A.grammar.productions) A.graph.now (omega (arith, c.if-count-gt-EDGES.true, c.word-count.ensures.0)); graphed = λ z. absurd (true≢false (sym z)) }

pub loop-k-init : goal.loop-k-init
loop-k-init c = let A = c.args in
    (checked_first (productions_in A.grammar.words.now A.grammar.productions) A.n A.graph.now A.ix.now c.requires.n_bound.0 c.requires.n_bound.1 c.requires.ix_value, omega arith)

pub check_edge-requires : goal.check_edge-requires
check_edge-requires c = record { graphed = c.loop-k.invariant.0.good; k_lt_edge_limit = omega (arith, c.loop-k-test.true, c.if-count-gt-EDGES.false) }

pub loop-k-smaller : goal.loop-k-smaller
loop-k-smaller c = omega (arith, c.loop-k-test.true)

pub loop-k-preserved : goal.loop-k-preserved
loop-k-preserved c = let A = c.args in (
  checked_more A.n (productions_in A.grammar.words.now A.grammar.productions) A.graph.now c.loop-k.ix c.check_edge.new.ix c.loop-k.k c.loop-k.invariant.0 (c.check_edge.ensures.graphed_2 c.if-not-check_edge.false) c.check_edge.result c.check_edge.ensures.value c.if-not-check_edge.false,
  omega (arith, c.loop-k-test.true),
)

pub returns-then-not-check_edge : goal.returns-then-not-check_edge
returns-then-not-check_edge c = let A = c.args in record { value = graph_bad A.n (productions_in A.grammar.words.now A.grammar.productions) A.graph.now c.loop-k.k (omega (arith, c.loop-k-test.true, c.word-count.ensures.0)) c.check_edge.result c.check_edge.ensures.value c.if-not-check_edge.true; graphed = λ z. absurd (true≢false (sym z)) }

pub shape_of-ix : goal.shape_of-ix
shape_of-ix c = let A = c.args in
    c.loop-k.invariant.0.good.index.long ∙ sym (ap length c.requires.ix_value ∙ length-replicate {A = ℕ} index_room 0)

pub returns : goal.returns
returns c = let A = c.args in
    let w = checked_all A.n (productions_in A.grammar.words.now A.grammar.productions) A.graph.now c.loop-k.ix c.loop-k.k c.loop-k.invariant.0 (omega (arith, c.loop-k.invariant.1, c.loop-k-test.false, c.word-count.ensures.0)) in record { value = w.0; graphed = λ _. w.1 }
