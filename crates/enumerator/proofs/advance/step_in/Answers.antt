use mathlib.Core.Path.{refl, sym}
use Rattle.enumerator.specs.trials.Advance.{start_of}
use Rattle.enumerator.proofs.graph_view.Made.{ranged_fits}
use Rattle.lr1_base.proofs.laws.Bools.{and_left}
use Rattle.enumerator.proofs.advance.Asking.{asked-none, asked_short, asked_long}
use Rattle.enumerator.proofs.advance.Ways.{few_nonterminals, read_of, roomy_of, step-refused, step_graph, step_scratch, step_buffer}
use native.Mathlib.Omega.{arith}
use Rattle.enumerator.proofs.advance.step_in.Goals as goal
use Rattle.enumerator.proofs.advance.step_in.Goals.{then-scratch-lt-SCRATCH-via-then-scratch-lt-SCRATCH, then-scratch-lt-SCRATCH-via-else-scratch-lt-SCRATCH+then-buffer-lt-WORDS}

pub returns-then-not-fits : goal.returns-then-not-fits
unfolding start_of
returns-then-not-fits c = let R = read_of c.counts-counts.ensures c.read_grammar-grammar.ensures.1 in
    step-refused _ _ _ _ _ (asked-none _ _ _ _ _ R _ (rw (← c.start-start.ensures.0, ← c.start-start.ensures.1) c.if-not-fits.ensures) refl)

pub returns-then-graph-lt-WORDS : goal.returns-then-graph-lt-WORDS
unfolding start_of
returns-then-graph-lt-WORDS c = let R = read_of c.counts-counts.ensures c.read_grammar-grammar.ensures.1 in
    step_graph _ _ _ _ _ (asked_short _ _ _ _ _ R _ (rw (← c.start-start.ensures.0, ← c.start-start.ensures.1) c.if-not-fits.ensures) refl c.if-graph-lt-WORDS.true) c.if-graph-lt-WORDS.true

pub returns-then-not-check_view : goal.returns-then-not-check_view
unfolding start_of
returns-then-not-check_view c = let R = read_of c.counts-counts.ensures c.read_grammar-grammar.ensures.1 in
    step-refused _ _ _ _ _ (asked_long _ _ _ _ _ R _ (rw (← c.start-start.ensures.0, ← c.start-start.ensures.1) c.if-not-fits.ensures) refl c.if-graph-lt-WORDS.false _ c.if-not-check_view.ensures.value)

pub returns-then-scratch-lt-SCRATCH : goal.returns-then-scratch-lt-SCRATCH
unfolding start_of
returns-then-scratch-lt-SCRATCH c = let R = read_of c.counts-counts.ensures c.read_grammar-grammar.ensures.1 in
    let A = asked_long _ _ _ _ _ R _ (rw (← c.start-start.ensures.0, ← c.start-start.ensures.1) c.if-not-fits.ensures) refl c.if-graph-lt-WORDS.false _ c.if-not-check_view.ensures.value in
    elim c.then-scratch-lt-SCRATCH.branch [
      | then-scratch-lt-SCRATCH-via-then-scratch-lt-SCRATCH w ↦ step_scratch _ _ _ _ _ A w.if-scratch-lt-SCRATCH.true
      | then-scratch-lt-SCRATCH-via-else-scratch-lt-SCRATCH+then-buffer-lt-WORDS w ↦ step_buffer _ _ _ _ _ A w.if-buffer-lt-WORDS.true
    ]

pub invariant_of-of : goal.invariant_of-of
invariant_of-of c = record { roomy = roomy_of (ranged_fits _ _ _ (sym c.if-not-check_view.ensures.value) (few_nonterminals c.counts-counts.ensures) (omega (arith, c.if-graph-lt-WORDS.false))) }

pub go_on-requires-clause-listable : goal.go_on-requires-clause-listable
go_on-requires-clause-listable c = let V = c.view.ensures in let O = c.of-over.ensures in rw (O.table.0, O.table.1, O.graph.0, O.graph.1, O.graph.2, O.graph.3, O.graph.4, O.graph.5, ← c.start-start.ensures.0, ← c.start-start.ensures.1, V.lists.0, V.lists.1, V.lists.2, V.lists.3, V.codes) (record {
  ranged = ranged_fits _ _ _ (sym c.if-not-check_view.ensures.value) (few_nonterminals c.counts-counts.ensures) (omega (arith, c.if-graph-lt-WORDS.false));
  fits = and_left _ _ (sym c.if-not-fits.ensures);
  view = (c.if-not-check_view.ensures.viewing refl).0;
  labelled = (c.if-not-check_view.ensures.viewing refl).1;
})

pub returns : goal.returns
unfolding start_of
returns c = let R = read_of c.counts-counts.ensures c.read_grammar-grammar.ensures.1 in
    let O = c.of-over.ensures in
    let found = rw (O.table.0, O.table.1, O.table.2, O.graph.0) at c.go_on.ensures in
    found _ _ R (asked_long _ _ _ _ _ R _ (rw (← c.start-start.ensures.0, ← c.start-start.ensures.1) c.if-not-fits.ensures) refl c.if-graph-lt-WORDS.false _ c.if-not-check_view.ensures.value)
