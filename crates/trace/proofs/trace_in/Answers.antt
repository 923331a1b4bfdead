use Rattle.std.proofs.Common.{sym, ◌∙◌, arith}
use Rattle.trace.proofs.Ways.{refused_state, refused-item, refused_graph, refused_scratch, traced, item_tells}
use Rattle.trace.proofs.trace_in.Goals.{then-graph-lt-WORDS-via-then-graph-lt-WORDS, then-graph-lt-WORDS-via-else-graph-lt-WORDS+then-scratch-lt-SCRATCH}
use Rattle.trace.proofs.trace_in.Goals as goal

pub returns-then-traced-counts : goal.returns-then-traced-counts
returns-then-traced-counts c = refused_state _ _ _ _ _ _ _ (omega (arith, c.if-traced-counts.true, c.counts.ensures.states))

pub returns-then-not-item_fits : goal.returns-then-not-item_fits
returns-then-not-item_fits c = refused-item _ _ _ _ _ _ _ (omega (arith, c.if-traced-counts.false, c.counts.ensures.states)) (item_tells _ _ _ _ _ _ _ c.read_grammar-grammar.ensures.1 c.item_fits.ensures c.if-not-item_fits.true)

pub returns-then-graph-lt-WORDS : goal.returns-then-graph-lt-WORDS
returns-then-graph-lt-WORDS c = elim c.then-graph-lt-WORDS.branch [
  | then-graph-lt-WORDS-via-then-graph-lt-WORDS w ↦ refused_graph _ _ _ _ _ _ _ (omega (arith, c.if-traced-counts.false, c.counts.ensures.states)) (item_tells _ _ _ _ _ _ _ c.read_grammar-grammar.ensures.1 c.item_fits.ensures c.if-not-item_fits.false) w.if-graph-lt-WORDS.true
  | then-graph-lt-WORDS-via-else-graph-lt-WORDS+then-scratch-lt-SCRATCH w ↦ refused_scratch _ _ _ _ _ _ _ (omega (arith, c.if-traced-counts.false, c.counts.ensures.states)) (item_tells _ _ _ _ _ _ _ c.read_grammar-grammar.ensures.1 c.item_fits.ensures c.if-not-item_fits.false) (omega (arith, w.if-graph-lt-WORDS.false)) w.if-scratch-lt-SCRATCH.true
]

pub work-requires : goal.work-requires
work-requires c = record { asked = record { same = c.read_grammar-grammar.ensures.1; state = omega (arith, c.if-traced-counts.false, c.counts.ensures.states); item = sym c.item_fits.ensures ∙ c.if-not-item_fits.false }; room = (omega (arith, c.if-graph-lt-WORDS.false), omega (arith, c.if-scratch-lt-SCRATCH.false)) }

pub shape_of-graph : goal.shape_of-graph
shape_of-graph c = c.work.auto.graph

pub shape_of-scratch : goal.shape_of-scratch
shape_of-scratch c = c.work.auto.scratch

pub returns : goal.returns
returns c = traced _ _ _ _ _ _ _ (omega (arith, c.if-traced-counts.false, c.counts.ensures.states)) (item_tells _ _ _ _ _ _ _ c.read_grammar-grammar.ensures.1 c.item_fits.ensures c.if-not-item_fits.false) _ (omega (arith, c.if-graph-lt-WORDS.false)) (omega (arith, c.if-scratch-lt-SCRATCH.false)) c.work.ensures
