use Rattle.std.proofs.Common.{sym, ◌∙◌, true≢false}
use Rattle.trace_graph.specs.Values.{same_value}
use Rattle.lr1_base.specs.repr.Packed.{productions_in}
use Rattle.trace_graph.proofs.Finds.{Compared, left_label, right_label, edge_source, edge_target_no, edge_yes}
use Rattle.trace_graph.proofs.same_edge.Goals as goal
use Rattle.trace_graph.proofs.same_edge.Goals.{After-read_edge-other, then-eq, else-eq}

compared : (c : After-read_edge-other) → Compared c.args.n (productions_in c.args.grammar.words.now c.args.grammar.productions) c.args.graph.now c.args.k c.args.edge c.read_edge-other.result
compared c = record { read = c.read_edge-other.ensures.1; here = c.requires.k_value.0; fits = c.requires.k_value.1 }

pub same_label-requires : goal.same_label-requires
same_label-requires c = (left_label (compared (goal.at.same_label-requires c).After-read_edge-other), right_label (compared (goal.at.same_label-requires c).After-read_edge-other))

pub returns-then-eq-2 : goal.returns-then-eq-2
unfolding same_value
returns-then-eq-2 c = elim c.if-eq.branch [
  | then-eq w ↦ edge_yes (compared (goal.at.returns-then-eq-2 c).After-read_edge-other) c.eq.ensures w.if-eq.true w.eq-then-eq.ensures (sym w.value-is ∙ c.if-eq-2.true) c.same_label.ensures
  | else-eq w ↦ absurd (true≢false (sym c.if-eq-2.true ∙ w.value-is ∙ w.if-eq.false))
]

pub returns-else-eq-2 : goal.returns-else-eq-2
unfolding same_value
returns-else-eq-2 c = elim c.if-eq.branch [
  | then-eq w ↦ c.if-eq-2.false ∙ edge_target_no (compared (goal.at.returns-else-eq-2 c).After-read_edge-other) c.eq.ensures w.if-eq.true w.eq-then-eq.ensures (sym w.value-is ∙ c.if-eq-2.false)
  | else-eq w ↦ c.if-eq-2.false ∙ edge_source (compared (goal.at.returns-else-eq-2 c).After-read_edge-other) c.eq.ensures w.if-eq.false
]
