use Rattle.std.proofs.Common.{arith}
use Rattle.trace_graph.proofs.Nodes.{made-nonterminal, made_indexed, made-item, made_other}
use Rattle.trace_graph.proofs.TraceGraphNode.of.Goals as goal

pub returns-in-0-eq0 : goal.returns-in-0-eq0
returns-in-0-eq0 c = made-nonterminal _ _ _ c.in-0-eq0.is-0 c.in-0-eq0.is-1

pub returns-in-1-default : goal.returns-in-1-default
returns-in-1-default c = made-item _ _ _ c.in-1-default.is-0

-- a nonterminal's kind with an index
pub returns-in_default : goal.returns-in_default
returns-in_default c = made_indexed _ _ _ (omega arith) (λ e. omega arith)

-- another kind
pub returns-in_default-2 : goal.returns-in_default-2
returns-in_default-2 c = made_other _ _ _ (λ e. omega arith) (λ e. omega arith)
