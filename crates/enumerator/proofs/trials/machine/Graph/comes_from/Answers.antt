use Rattle.std.proofs.Common.{◌∙◌, ne_eqb}
use Rattle.enumerator.proofs.trials.Stepping.{from-nonterminal, from_item_lem}
use Rattle.enumerator.proofs.trials.machine.Graph.comes_from.Goals as goal

pub returns-then-source-eq0 : goal.returns-then-source-eq0
returns-then-source-eq0 c = from-nonterminal c.args.self.words.now c.args.edge c.source-source.result c.requires.edge_bound c.source-source.ensures.0 c.args.nonterminal c.if-source-eq0.true

pub returns-else-source-eq0 : goal.returns-else-source-eq0
returns-else-source-eq0 c = ne_eqb _ _ c.if-source-eq0.false ∙ from_item_lem c.args.self.words.now c.args.edge c.source-source.result c.requires.edge_bound c.source-source.ensures.0 c.args.nonterminal c.if-source-eq0.false
