use Rattle.lr1_base.specs.repr.Packed.{productions_in}
use Rattle.enumerator.proofs.graph_view.Owner.{owner_nonterminal, owner_below, owner_item}
use Rattle.enumerator.proofs.graph_view.making.node_owner.Goals as goal

pub returns-then-node-eq0 : goal.returns-then-node-eq0
returns-then-node-eq0 c = owner_nonterminal c.requires.by_index.0 (productions_in c.args.grammar.words.now c.args.grammar.productions) c.args.node c.requires.by_index.1 c.requires.by_index.2 c.if-node-eq0.true

pub owner-requires : goal.owner-requires
owner-requires c = owner_below c.args.grammar.words.now c.args.grammar.productions c.args.grammar.packed c.requires.by_index.0 c.args.node c.requires.by_index.2 c.if-node-eq0.false

pub returns-else-node-eq0 : goal.returns-else-node-eq0
returns-else-node-eq0 c = owner_item c.args.grammar.words.now c.args.grammar.productions c.args.grammar.packed c.requires.by_index.0 c.args.node c.requires.by_index.2 c.if-node-eq0.false c.owner.result c.owner.ensures
