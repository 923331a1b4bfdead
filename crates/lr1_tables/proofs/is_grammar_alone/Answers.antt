use Rattle.std.proofs.Common.{sym, ◌∙◌, eqb-true}
use borrow.Author.Tests.{eqb-false}
use Rattle.lr1_tables.proofs.Ways.{no_items, no_edges, alone_states, alone_items, alone_edges}
use Rattle.lr1_tables.proofs.is_grammar_alone.Goals as goal
use Rattle.lr1_tables.proofs.is_grammar_alone.Goals.{then-counts-eq1, else-counts-eq1}

pub returns-then-first_item-eq0 : goal.returns-then-first_item-eq0
returns-then-first_item-eq0 c = elim c.if-counts-eq1.branch [
  | then-counts-eq1 w ↦ alone_edges _ _ _ c.counts.ensures.states w.if-counts-eq1.true (no_items _ c.args.table.accepted _ _ w.first_item.ensures.items w.first_item.ensures.on) (eqb-true _ 0 (sym w.value-is ∙ c.if-first_item-eq0.true)) c.first_edge.result (no_edges _ c.args.table.accepted c.first_edge.result _ c.first_edge.ensures.edges c.first_edge.ensures.on)
  | else-counts-eq1 w ↦ absurd (w.if-counts-eq1.false (eqb-true _ 1 (sym w.value-is ∙ c.if-first_item-eq0.true)))
]

pub returns-else-first_item-eq0 : goal.returns-else-first_item-eq0
returns-else-first_item-eq0 c = elim c.if-counts-eq1.branch [
  | then-counts-eq1 w ↦ c.if-first_item-eq0.false ∙ alone_items _ _ _ c.counts.ensures.states w.if-counts-eq1.true (no_items _ c.args.table.accepted _ _ w.first_item.ensures.items w.first_item.ensures.on) (eqb-false _ 0 (sym w.value-is ∙ c.if-first_item-eq0.false))
  | else-counts-eq1 w ↦ c.if-first_item-eq0.false ∙ alone_states _ _ c.counts.ensures.states w.if-counts-eq1.false
]
