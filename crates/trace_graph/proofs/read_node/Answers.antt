use Rattle.trace_graph.proofs.Words.{node_made}
use Rattle.trace_graph.proofs.read_node.Goals as goal

pub returns : goal.returns
returns c = node_made c.args.graph.now c.args.at c.word.result c.word-2.result c.word-3.result c.word.ensures.0 c.word-2.ensures.0 c.word-3.ensures.0
