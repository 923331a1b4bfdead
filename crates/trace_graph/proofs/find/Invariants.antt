use Rattle.lr1_base.specs.repr.Packed.{productions_in}
use Rattle.trace_graph.specs.Graph.{is_same_edge}
use Rattle.trace_graph.specs.Index.{in_bucket, bucket_limit}
use Rattle.trace_graph.specs.Values.{edge_is}
use Rattle.trace_graph.proofs.Index.{Turn}
use Rattle.trace_graph.proofs.find.Given as goal

abbrev pub invariant-loop-next : goal.invariant-loop-next
invariant-loop-next l = Turn l.graph l.ix bucket_limit (in_bucket (productions_in l.grammar.words.now l.grammar.productions) l.graph l.bucket) (is_same_edge (productions_in l.grammar.words.now l.grammar.productions) (edge_is l.edge)) l.k l.next

abbrev pub decreases-loop-next : goal.decreases-loop-next
decreases-loop-next l = l.next
