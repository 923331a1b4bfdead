use Rattle.std.proofs.Common.{◌∙◌, le-ltb}
use Rattle.trace_graph.specs.Values.{same_value}
use Rattle.enumerator.proofs.trials.Holding.{enters_edge, enters_past}
use Rattle.enumerator.proofs.trials.machine.Graph.enters.Goals as goal

pub returns-then-edge-word : goal.returns-then-edge-word
unfolding same_value
returns-then-edge-word c = enters_edge c.requires.0 c.args.node c.requires.1 c.args.edge c.word.result c.word.ensures.0 c.if-edge-word.true c.eq.result c.entered.result c.entered.ensures.1 c.eq.ensures

pub returns-else-edge-word : goal.returns-else-edge-word
returns-else-edge-word c = le-ltb _ _ c.if-edge-word.false ∙ enters_past c.requires.0 c.args.node c.requires.1 c.args.edge c.word.result c.word.ensures.0 c.if-edge-word.false
