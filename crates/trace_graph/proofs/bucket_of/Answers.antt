use Rattle.std.proofs.Common.{arith}
use Rattle.trace_graph.proofs.Buckets.{bucket_made, words_fit_lem}
use Rattle.trace_graph.proofs.bucket_of.Goals as goal

pub mix-requires : goal.mix-requires
mix-requires c = (omega arith, words_fit_lem c.args.grammar.words.now c.args.grammar.productions c.args.edge c.args.grammar.packed c.requires.small_edge.1 c.symbols.ensures)

pub returns : goal.returns
returns c = (bucket_made c.args.grammar.words.now c.args.grammar.productions c.args.edge c.requires.small_edge.1 c.node_number-from.ensures.0 c.node_number-to.ensures.0 c.symbols.ensures c.mix.ensures.0, omega arith)
