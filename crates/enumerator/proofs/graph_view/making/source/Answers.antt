use Rattle.enumerator.proofs.graph_view.Made.{source-nonterminal, source-item}
use native.Mathlib.Omega.{arith}
use Rattle.enumerator.proofs.graph_view.making.source.Goals as goal

pub returns-then-node-eq0 : goal.returns-then-node-eq0
returns-then-node-eq0 c = (source-nonterminal c.args.node c.if-node-eq0.true, omega (arith, c.requires c.if-node-eq0.true))

pub returns-else-node-eq0 : goal.returns-else-node-eq0
returns-else-node-eq0 c = (source-item c.args.node c.if-node-eq0.false, omega arith)
