use native.Mathlib.Omega.{arith}
use mathlib.Core.Path.{refl, sym}
use mathlib.Core.Bool.{true≢false}
use Rattle.lr1_base.specs.repr.Packed.{productions_in}
use Rattle.trace_graph.proofs.Checks.{checked_first, checked_more, checked_all, graph_many, graph_bad}
use Rattle.enumerator.specs.graph_view.View.{EdgeRanged}
use Rattle.enumerator.proofs.graph_view.Made.{viewed_first, making_more, view_made, ranged_of}
use Rattle.enumerator.proofs.graph_view.Labelling.{labelling_first, labelling_more, labelling_made}
use Rattle.enumerator.proofs.graph_view.making.check_view.Goals as goal

pub returns-then-count-gt-EDGES : goal.returns-then-count-gt-EDGES
returns-then-count-gt-EDGES c = let A = c.args in record { value = graph_many A.n (productions_in A.grammar.words.now A.grammar.productions) A.graph.now (omega (arith, c.if-count-gt-EDGES.true, c.word-count.ensures.0)); viewing = λ z. absurd (true≢false (sym z)) }

pub loop-k-init : goal.loop-k-init
loop-k-init c = let A = c.args in
    (checked_first (productions_in A.grammar.words.now A.grammar.productions) A.n A.graph.now _ c.requires.n_bound.0 c.requires.n_bound.1 refl, (omega arith, (labelling_first c.requires.blank.3 c.requires.n_bound.2, viewed_first c.requires.blank.0 c.requires.blank.1 c.requires.blank.2)))

pub loop-k-preserved : goal.loop-k-preserved
loop-k-preserved c = let A = c.args in
    let k = c.loop-k.k in
    let I = c.loop-k.invariant in
    let G = c.check_edge.ensures.graphed_2 c.if-not-check_edge.false in
    let E : EdgeRanged (productions_in A.grammar.words.now A.grammar.productions) A.graph.now k = record { nonterminals = A.n; few = c.requires.n_bound.0; fits = G.fits k (omega arith) } in (
      checked_more A.n (productions_in A.grammar.words.now A.grammar.productions) A.graph.now c.loop-k.ix c.check_edge.new.ix k I.0 G c.check_edge.result c.check_edge.ensures.value c.if-not-check_edge.false,
      (
        omega (arith, c.loop-k-test.true),
        (
          labelling_more c.args.grammar.packed E (omega (arith, c.loop-k-test.true, c.word-count.ensures.0)) (omega (arith, c.if-count-gt-EDGES.false, c.word-count.ensures.0)) I.1.1.0 c.view_edge.ensures.owners c.view_edge.ensures.codes,
          making_more E (omega (arith, c.loop-k-test.true, c.word-count.ensures.0)) (omega (arith, c.if-count-gt-EDGES.false, c.word-count.ensures.0)) I.1.1.1 c.view_edge.ensures.sources c.view_edge.ensures.older c.view_edge.ensures.latest,
        ),
      ),
    )

pub returns-then-not-check_edge : goal.returns-then-not-check_edge
returns-then-not-check_edge c = let A = c.args in record { value = graph_bad A.n (productions_in A.grammar.words.now A.grammar.productions) A.graph.now c.loop-k.k (omega (arith, c.loop-k-test.true, c.word-count.ensures.0)) c.check_edge.result c.check_edge.ensures.value c.if-not-check_edge.true; viewing = λ z. absurd (true≢false (sym z)) }

pub returns : goal.returns
returns c = let A = c.args in
    let I = c.loop-k.invariant in
    let w = checked_all A.n (productions_in A.grammar.words.now A.grammar.productions) A.graph.now c.loop-k.ix c.loop-k.k I.0 (omega (arith, I.1.0, c.loop-k-test.false, c.word-count.ensures.0)) in record { value = w.0; viewing = λ _. (view_made (ranged_of w.1) (omega (arith, I.1.0, c.loop-k-test.false, c.word-count.ensures.0)) I.1.1.1, labelling_made (ranged_of w.1) (omega (arith, I.1.0, c.loop-k-test.false, c.word-count.ensures.0)) I.1.1.0) }
