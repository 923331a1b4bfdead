use Rattle.std.proofs.Common.{sym, ◌∙◌}
use Rattle.trace_graph.proofs.Fits.{item-below, item-within}
use Rattle.item_sets.proofs.sets.ask_item_in.Goals as goal

pub say_item-requires : goal.say_item-requires
say_item-requires g c =
    let P = c.read_grammar-grammar.result.packed in
    let f = sym c.item_fits.ensures ∙ c.if-item_fits.true in
    record { production = item-below _ _ P _ _ f; index_in_bounds = item-within _ _ P _ _ f }
