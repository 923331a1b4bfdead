use Rattle.std.proofs.Common.{◌∙◌, le-ltb}
use Rattle.trace_graph.proofs.Fits.{fits_at, fits_past}
use Rattle.trace_graph.proofs.item_fits.Goals as goal

pub returns-then-item-grammar : goal.returns-then-item-grammar
returns-then-item-grammar c = fits_at c.args.grammar.words.now c.args.grammar.productions c.args.grammar.packed c.args.item.production c.args.item.index c.length.result c.if-item-grammar.true c.length.ensures.0

pub returns-else-item-grammar : goal.returns-else-item-grammar
returns-else-item-grammar c = le-ltb c.args.item.production c.args.grammar.productions c.if-item-grammar.false ∙ fits_past c.args.grammar.words.now c.args.grammar.productions c.args.grammar.packed c.args.item.production c.args.item.index c.if-item-grammar.false
