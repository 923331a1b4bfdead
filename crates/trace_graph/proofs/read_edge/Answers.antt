use Rattle.trace_graph.proofs.Words.{edge_made}
use Rattle.trace_graph.proofs.read_edge.Goals as goal

pub returns : goal.returns
returns c = edge_made c.args.graph.now c.args.k c.read_node.result c.read_node-2.result c.word.result c.word-2.result
    c.read_node.ensures.1 c.read_node-2.ensures.1 c.word.ensures.0 c.word-2.ensures.0
