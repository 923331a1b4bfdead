use Rattle.std.proofs.Common.{ap, ◌∙◌}
use Rattle.trace_graph.specs.Nodes.{node_value}
use Rattle.trace_graph.proofs.Nodes.{node_words_lem}
use Rattle.lr1.proofs.Graphs.{edge_between}
use Rattle.lihvemur_c.proofs.Numbered.{edge_handed}
use Rattle.lihvemur_c.proofs.lihvemur_add_edge.Goals as goal

pub returns : goal.returns
returns c = edge_handed _ _ _ _ _ _ c.hand_out.ensures _ (c.add_edge-answer.ensures ∙ edge_between _ _ _ _ (ap node_value c.of-from.ensures ∙ node_words_lem _ _ _) (ap node_value c.of-to.ensures ∙ node_words_lem _ _ _))
