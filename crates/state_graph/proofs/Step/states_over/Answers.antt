use mathlib.Core.Path.{sym, ◌∙◌}
use Prim.Native.Nat.{◌<◌}
use lib.ListN.{length}
use Rattle.table.specs.Decoded.{meaning}
use Rattle.table.proofs.Decoding.{fits}
use Rattle.state_graph.proofs.Hits.{finding_start, finding_none, finding_hit, finding_miss, finding_done}
use native.Mathlib.Omega.{arith}
use Rattle.state_graph.proofs.Step.states_over.Goals as goal
use Rattle.state_graph.proofs.Step.states_over.Goals.{then-head-ne0+then-is_set, else-head-ne0, else-head-ne0-via-then-head-ne0+else-is_set, else-head-ne0-via-else-head-ne0}

pub loop-s-init : goal.loop-s-init
loop-s-init c = λ l h H. finding_start c.args.self.table.words.now c.args.self.table.accepted _ _ l h _ _ c.new-found.ensures

pub first_edge-head-requires : goal.first_edge-head-requires
first_edge-head-requires c = omega (arith, c.loop-s-test.true, c.counts-s-end.ensures.states)

pub is_set-requires : goal.is_set-requires
is_set-requires c = omega (arith, c.first_edge-head.ensures.on.below, c.sweep.ensures.long)

pub loop-s-preserved : goal.loop-s-preserved
loop-s-preserved c = let i : c.loop-s.s < length (meaning c.args.self.table.words.now).states = omega (arith, c.loop-s-test.true, c.counts-s-end.ensures.states) in
    λ l h H. elim c.if-head-ne0.branch [
      | then-head-ne0+then-is_set w ↦ rw w.found-is (finding_hit c.args.self.table.words.now c.args.self.table.accepted _ _ l h _ _ _ (c.loop-s.invariant l h H) i _ c.first_edge-head.ensures.edges (sym (H.exact _ (c.first_edge-head.ensures.on.reached w.if-head-ne0.true)) ∙ sym w.is_set.ensures ∙ w.if-is_set.true) _ _ w.insert-found.ensures)
      | else-head-ne0 w ↦ rw w.found-is (elim w.else-head-ne0.branch [
        | else-head-ne0-via-then-head-ne0+else-is_set w' ↦ finding_miss c.args.self.table.words.now c.args.self.table.accepted _ _ l h _ _ _ (c.loop-s.invariant l h H) i _ c.first_edge-head.ensures.edges (sym (H.exact _ (c.first_edge-head.ensures.on.reached w'.if-head-ne0.true)) ∙ sym w'.is_set.ensures ∙ w'.if-is_set.false)
        | else-head-ne0-via-else-head-ne0 w' ↦ finding_none c.args.self.table.words.now c.args.self.table.accepted _ _ l h _ _ _ (c.loop-s.invariant l h H) i _ c.first_edge-head.ensures.edges w'.if-head-ne0.false
      ])
    ]

pub returns : goal.returns
returns c = finding_done c.args.self.table.words.now c.args.self.table.accepted c.args.self.kind c.args.self.number c.args.self.set.low c.args.self.set.high (fits c.args.self.table.words.now c.args.self.table.accepted) _ _ _
    (c.loop-s.invariant c.args.self.set.low c.args.self.set.high c.sweep.ensures) (omega (arith, c.loop-s-test.false, c.counts-s-end.ensures.states))
