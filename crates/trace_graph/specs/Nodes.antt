-- The code's `TraceGraphNode`: the node that three words make, and its three words.
use Rattle.std.specs.Prelude.{ℕ, zero, suc}
use Rattle.trace_graph.specs.declared.Node.{Node as NodeValue}
use Rattle.trace_graph.specs.declared.TraceGraphNode.{TraceGraphNode}
use Rattle.trace_graph.specs.declared.TraceGraphNode.TheVariants.{Nonterminal, Item, Other}

-- 0, nonterminal, 0 or 1, production, index; any other three words are no node
unfoldable pub graph_node : ℕ → ℕ → ℕ → TraceGraphNode
graph_node zero number zero = Nonterminal (record { 0 = number })
graph_node zero number (suc i) = Other 0 number (suc i)
graph_node (suc zero) number index = Item (record { 0 = number }) index
graph_node (suc (suc k)) number index = Other (suc (suc k)) number index

unfoldable pub node_value : TraceGraphNode → NodeValue
node_value (Nonterminal n) = record { kind = 0; number = n.0; index = 0 }
node_value (Item p i) = record { kind = 1; number = p.0; index = i }
node_value (Other k n i) = record { kind = k; number = n; index = i }
