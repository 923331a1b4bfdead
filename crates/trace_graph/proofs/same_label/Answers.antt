use Rattle.std.proofs.Common.{sym, ◌∙◌, eq-eqb, ne_eqb}
use Rattle.trace_graph.proofs.Fits.{Labels, left_below, right_below, label_one, label_index, label_words_lem}
use Rattle.trace_graph.proofs.same_label.Goals as goal
use Rattle.trace_graph.proofs.same_label.Goals.{Start}
use Rattle.lr1_base.proofs.words.Same.{same_pointwise}

labels : (S : Start) → Labels S.args.grammar.words.now S.args.grammar.productions S.args.a.production S.args.a.index S.args.b.production S.args.b.index
labels S = record { packed = S.args.grammar.packed; left = S.requires.0; right = S.requires.1 }

pub returns-then-a-b-2 : goal.returns-then-a-b-2
returns-then-a-b-2 c = eq-eqb c.args.a.production c.args.b.production c.if-a-b-2.true ∙ sym (eq-eqb c.args.a.index c.args.b.index c.if-a-b.true) ∙ label_one (labels (goal.at.returns-then-a-b-2 c).Start) c.if-a-b-2.true

pub symbols-requires : goal.symbols-requires
symbols-requires c = left_below (labels (goal.at.symbols-requires c).Start)

pub symbols-requires-else-a-b-2 : goal.symbols-requires-else-a-b-2
symbols-requires-else-a-b-2 c = right_below (labels (goal.at.symbols-requires-else-a-b-2 c).Start)

pub returns-else-a-b-2 : goal.returns-else-a-b-2
returns-else-a-b-2 c = label_words_lem (labels (goal.at.returns-else-a-b-2 c).Start) c.if-a-b.true c.symbols.ensures c.symbols-else-a-b-2.ensures (c.eq.ensures ∙ same_pointwise c.symbols.result.now c.symbols-else-a-b-2.result.now)

pub returns-else-a-b : goal.returns-else-a-b
returns-else-a-b c = ne_eqb c.args.a.index c.args.b.index c.if-a-b.false ∙ label_index (labels (goal.at.returns-else-a-b c).Start) c.if-a-b.false
