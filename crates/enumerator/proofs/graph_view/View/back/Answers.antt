use mathlib.Core.Path.{refl, ◌∙◌}
use Rattle.enumerator.proofs.graph_view.Trial.{stack_long}
use Rattle.enumerator.proofs.graph_view.Stepping.{back-first, back-over, back_deep, back_edge, back_found, back_again}
use Rattle.enumerator.proofs.graph_view.Counting.{replace_counts, pop_counts}
use native.Mathlib.Omega.{arith}
use Rattle.enumerator.proofs.graph_view.View.back.Goals as goal

pub word-depth-requires : goal.word-depth-requires
word-depth-requires c = omega (arith, stack_long c.requires.held)

pub loop-depth-init : goal.loop-depth-init
loop-depth-init c = (refl, refl, back-first c.requires.held c.word-depth.ensures.0, c.requires.counted_walk)

pub word-edge-requires : goal.word-edge-requires
word-edge-requires c = omega (arith, back_deep c.loop-depth.invariant.2)

pub word-requires : goal.word-requires
word-requires c = omega (arith, back_edge c.loop-depth.invariant.2 (λ e. omega (arith, e)) c.word-edge.ensures.0, c.args.self.linked.0.long)

pub replace-requires : goal.replace-requires
replace-requires c = let D = back_deep c.loop-depth.invariant.2 in
    (D.1.0, (omega (arith, D.1.1), omega (arith, c.in-Some.ensures, c.word.ensures.0, c.args.self.linked.0.low c.word-edge.result)))

pub returns-in-Some : goal.returns-in-Some
returns-in-Some c = record { by_index = back_found c.loop-depth.invariant.2 (λ e. omega (arith, e)) c.word-edge.ensures.0 c.word.ensures.0 (omega (arith, c.in-Some.ensures)) c.replace.ensures; counted_walk_2 = replace_counts c.args.self.sources.bytes.now c.loop-depth.invariant.2.held c.loop-depth.invariant.2.deep (λ e. omega (arith, e)) c.word-edge.ensures.0 c.in-Some.older c.replace.ensures c.loop-depth.invariant.3 }

pub pop-requires : goal.pop-requires
pop-requires c = let D = back_deep c.loop-depth.invariant.2 in
    (D.1.0, (omega (arith, D.0), omega (arith, D.1.1)))

pub leave-requires : goal.leave-requires
leave-requires c = record { held = (back_again c.loop-depth.invariant.2 (λ e. omega (arith, e)) c.word-edge.ensures.0 c.word.ensures.0 (omega (arith, c.in_default.ensures)) c.pop.ensures).held; counted_edges = pop_counts c.args.self.sources.bytes.now c.loop-depth.invariant.2.held c.loop-depth.invariant.2.deep (λ e. omega (arith, e)) c.word-edge.ensures.0 c.pop.ensures c.loop-depth.invariant.3 }

pub loop-depth-preserved : goal.loop-depth-preserved
loop-depth-preserved c = (c.pop.auto.words ∙ c.loop-depth.invariant.0, c.leave.auto.counts ∙ c.loop-depth.invariant.1, back_again c.loop-depth.invariant.2 (λ e. omega (arith, e)) c.word-edge.ensures.0 c.word.ensures.0 (omega (arith, c.in_default.ensures)) c.pop.ensures, c.leave.ensures)

pub returns : goal.returns
returns c = record { by_index = back-over c.loop-depth.invariant.2 (omega arith); counted_walk_2 = c.loop-depth.invariant.3 }
