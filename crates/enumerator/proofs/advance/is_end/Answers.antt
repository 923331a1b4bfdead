use mathlib.Core.Path.{ap, ◌∙◌}
use Rattle.trace_graph.specs.Graph.{at_item, is_same_node}
use Rattle.enumerator.proofs.advance.Ends.{ends-source, ends_target}
use Rattle.enumerator.proofs.advance.is_end.Goals as goal

pub returns-then-is_item : goal.returns-then-is_item
returns-then-is_item c =
    let v = at_item (record { production = c.args.item.production; index = c.args.item.index }) in
    c.if-is_item.true ∙ ends-source v c.args.graph.words.now c.args.k _ (c.is_item.ensures ∙ ap (is_same_node v) c.source.ensures.0) c.if-is_item.true

pub returns-else-is_item : goal.returns-else-is_item
returns-else-is_item c =
    let v = at_item (record { production = c.args.item.production; index = c.args.item.index }) in
    ends_target v c.args.graph.words.now c.args.k _ (c.is_item.ensures ∙ ap (is_same_node v) c.source.ensures.0) c.if-is_item.false _ (c.is_item-else-is_item.ensures ∙ ap (is_same_node v) c.entered.ensures.0)
