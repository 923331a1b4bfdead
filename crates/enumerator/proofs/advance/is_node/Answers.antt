use Rattle.std.proofs.Common.{ℕ, ap, ◌∙◌, arith, rules, tests, refl}
use Rattle.std.specs.List.{list_any, range_with_len}
use Rattle.std.proofs.lemmas.Iterator.{YieldsList-from_range, serves_from_Range}
use Rattle.std.proofs.lemmas.Iterator.Search.{any_from_yields_List}
use Rattle.trace_graph.specs.Graph.{at_item}
use Rattle.trace_graph.specs.Words.{edge_at}
use Rattle.enumerator.specs.advance.Context.{ends_at}
use Rattle.enumerator.proofs.advance.Ends.{node_any}
use Rattle.enumerator.proofs.advance.is_node.Goals as goal

pub any-requires-clause-callable : goal.any-requires-clause-callable
any-requires-clause-callable c = serves_from_Range (λ x q k. search rules) (λ x l h. search rules)

pub returns : goal.returns
returns c =
    let g = c.args.graph.words.now in
    let v = at_item (record { production = c.args.item.production; index = c.args.item.index }) in
    any_from_yields_List (λ k. ends_at v (edge_at g k)) _ _ _ c.any.ensures.ran (YieldsList-from_range 0 c.word.result c.word.result refl (omega arith)) (λ x b q k. search (rules, tests))
    ∙ ap (λ (n : ℕ). list_any (λ k. ends_at v (edge_at g k)) (range_with_len 0 n)) c.word.ensures.0 ∙ node_any g v
