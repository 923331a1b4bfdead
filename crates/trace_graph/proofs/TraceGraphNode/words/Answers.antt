use mathlib.Core.Path.{◌∙◌}
use Rattle.trace_graph.proofs.Nodes.{words-nonterminal, words-item, words-other}
use Rattle.trace_graph.proofs.TraceGraphNode.words.Goals as goal

pub returns-in-Nonterminal : goal.returns-in-Nonterminal
returns-in-Nonterminal c = c.nonterminal.ensures ∙ words-nonterminal _ _ c.in-Nonterminal.is

pub returns-in-Item : goal.returns-in-Item
returns-in-Item c = words-item _ _ _ c.in-Item.is

pub returns-in-Other : goal.returns-in-Other
returns-in-Other c = words-other _ _ _ _ c.in-Other.is
