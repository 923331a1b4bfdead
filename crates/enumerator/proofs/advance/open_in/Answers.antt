use mathlib.Core.Path.{refl}
use Rattle.enumerator.proofs.advance.Asking.{asked-none, asked_short, asked_long}
use Rattle.enumerator.proofs.advance.Ways.{read_of, open_refused, open_short, open_stray, open_fresh}
use Rattle.enumerator.proofs.advance.open_in.Goals as goal

pub returns-then-not-fits : goal.returns-then-not-fits
returns-then-not-fits c = let R = read_of c.counts-counts.ensures c.read_grammar-grammar.ensures.1 in
    open_refused _ _ _ _ _ (asked-none _ _ _ _ _ R _ (rw (← c.start-start.ensures.0, ← c.start-start.ensures.1) c.if-not-fits.ensures) refl)

pub returns-then-graph-lt-WORDS : goal.returns-then-graph-lt-WORDS
returns-then-graph-lt-WORDS c = let R = read_of c.counts-counts.ensures c.read_grammar-grammar.ensures.1 in
    open_short _ _ _ _ _ (asked_short _ _ _ _ _ R _ (rw (← c.start-start.ensures.0, ← c.start-start.ensures.1) c.if-not-fits.ensures) refl c.if-graph-lt-WORDS.true) c.if-graph-lt-WORDS.true

pub returns-then-not-check_graph : goal.returns-then-not-check_graph
returns-then-not-check_graph c = let R = read_of c.counts-counts.ensures c.read_grammar-grammar.ensures.1 in
    open_refused _ _ _ _ _ (asked_long _ _ _ _ _ R _ (rw (← c.start-start.ensures.0, ← c.start-start.ensures.1) c.if-not-fits.ensures) refl c.if-graph-lt-WORDS.false _ c.if-not-check_graph.ensures.value)

pub returns-then-not-is_node : goal.returns-then-not-is_node
returns-then-not-is_node c = let R = read_of c.counts-counts.ensures c.read_grammar-grammar.ensures.1 in
    open_stray _ _ _ _ _ (asked_long _ _ _ _ _ R _ (rw (← c.start-start.ensures.0, ← c.start-start.ensures.1) c.if-not-fits.ensures) refl c.if-graph-lt-WORDS.false _ c.if-not-check_graph.ensures.value) c.if-graph-lt-WORDS.false _ (rw (← c.start-start.ensures.0, ← c.start-start.ensures.1) c.if-not-is_node.ensures) refl

pub returns : goal.returns
returns c = let R = read_of c.counts-counts.ensures c.read_grammar-grammar.ensures.1 in
    open_fresh _ _ _ _ _ (asked_long _ _ _ _ _ R _ (rw (← c.start-start.ensures.0, ← c.start-start.ensures.1) c.if-not-fits.ensures) refl c.if-graph-lt-WORDS.false _ c.if-not-check_graph.ensures.value) c.if-graph-lt-WORDS.false _ (rw (← c.start-start.ensures.0, ← c.start-start.ensures.1) c.if-not-is_node.ensures) refl _ refl
