use mathlib.Core.Path.{refl, sym, ◌∙◌}
use Rattle.std.proofs.lemmas.Result.{err_from_is_err_and}
use Rattle.lr1.proofs.Graphs.{edge_out, graph_short, graph_out, edge_added, edge_over}
use native.Mathlib.Omega.{arith}
use Rattle.lr1.proofs.add_edge_in.Goals as goal

pub returns-then-not-edge_fits : goal.returns-then-not-edge_fits
returns-then-not-edge_fits c = edge_out _ _ _ _ _ _ c.counts-n.ensures.nonterminals c.read_grammar-grammar.ensures.1 c.edge_fits.ensures c.if-not-edge_fits.true

pub returns-then-graph-lt-WORDS : goal.returns-then-graph-lt-WORDS
returns-then-graph-lt-WORDS c = graph_short _ _ _ _ _ _ c.counts-n.ensures.nonterminals c.read_grammar-grammar.ensures.1 c.edge_fits.ensures c.if-not-edge_fits.false (omega (arith, c.if-graph-lt-WORDS.true))

pub check_graph-requires : goal.check_graph-requires
check_graph-requires c = record { n_bound = (rw c.counts-n.ensures.nonterminals c.counts-n.ensures.fits.few_nonterminals, omega (arith, c.if-graph-lt-WORDS.false)); ix_value = refl }

pub returns-then-not-check_graph : goal.returns-then-not-check_graph
returns-then-not-check_graph c = graph_out _ _ _ _ _ _ c.counts-n.ensures.nonterminals c.read_grammar-grammar.ensures.1 c.edge_fits.ensures c.if-not-edge_fits.false (omega (arith, c.if-graph-lt-WORDS.false)) _ c.check_graph.ensures.value c.if-not-check_graph.true

pub insert-requires : goal.insert-requires
insert-requires c = record { graphed = c.check_graph.ensures.graphed c.if-not-check_graph.false; edge_value = sym c.edge_fits.ensures ∙ c.if-not-edge_fits.false }

pub returns-in_err-insert : goal.returns-in_err-insert
returns-in_err-insert c =
    let p = err_from_is_err_and c.from_residual.result c.from_residual.ensures.1 in
    rw (p.1, p.2) (edge_over _ _ _ _ _ _ c.counts-n.ensures.nonterminals c.read_grammar-grammar.ensures.1 c.edge_fits.ensures c.if-not-edge_fits.false (omega (arith, c.if-graph-lt-WORDS.false)) _ c.check_graph.ensures.value c.if-not-check_graph.false c.in_err-insert.ensures.overfull)

pub returns : goal.returns
returns c = edge_added _ _ _ _ _ _ c.counts-n.ensures.nonterminals c.read_grammar-grammar.ensures.1 c.edge_fits.ensures c.if-not-edge_fits.false (omega (arith, c.if-graph-lt-WORDS.false)) _ c.check_graph.ensures.value c.if-not-check_graph.false _ (c.check_graph.ensures.graphed c.if-not-check_graph.false) c.in_ok-insert.ensures.added refl
