use mathlib.Core.Path.{refl, ap, ◌∙◌}
use mathlib.Core.Bool.{not}
use borrow.Author.Tests.{eq-eqb, ne_eqb}
use Rattle.enumerator.proofs.advance.Ends.{item-other, item_index, item-number}
use Rattle.enumerator.proofs.advance.is_item.Goals as goal

pub returns-then-item-node : goal.returns-then-item-node
returns-then-item-node c = item_index c.args.node _ refl _ _ c.if-node-ne0.true c.if-item-node.true

pub returns-else-item-node : goal.returns-else-item-node
returns-else-item-node c = ne_eqb _ _ c.if-item-node.false ∙ item-number c.args.node _ refl _ _ c.if-node-ne0.true c.if-item-node.false

pub returns-else-node-ne0 : goal.returns-else-node-ne0
returns-else-node-ne0 c = ap not (eq-eqb _ _ c.if-node-ne0.false) ∙ item-other c.args.node _ refl _ _ c.if-node-ne0.false
