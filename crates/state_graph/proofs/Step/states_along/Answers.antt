use mathlib.Core.Path.{sym, ◌∙◌}
use Prim.Native.Nat.{◌<◌}
use lib.ListN.{length}
use Rattle.table.specs.Decoded.{meaning}
use Rattle.table.proofs.Decoding.{fits}
use Rattle.state_graph.proofs.Hits.{finding_start, finding_led, finding_not, finding_done}
use native.Mathlib.Omega.{arith}
use Rattle.state_graph.proofs.Step.states_along.Goals as goal
use Rattle.state_graph.proofs.Step.states_along.Goals.{then-branch, else-branch}

pub loop-s-init : goal.loop-s-init
loop-s-init c = finding_start c.args.self.table.words.now c.args.self.table.accepted _ _ _ _ _ _ c.new-found.ensures

pub leads-requires : goal.leads-requires
leads-requires c = omega (arith, c.loop-s-test.true, c.counts-s-end.ensures.states)

pub loop-s-preserved : goal.loop-s-preserved
loop-s-preserved c = let i : c.loop-s.s < length (meaning c.args.self.table.words.now).states = omega (arith, c.loop-s-test.true, c.counts-s-end.ensures.states) in
    elim c.if-branch.branch [
      | then-branch w ↦ rw w.found-is (finding_led c.args.self.table.words.now c.args.self.table.accepted _ _ _ _ _ _ _ c.loop-s.invariant i (sym c.in_ok-leads.ensures ∙ w.if-branch.true) _ _ w.insert-found.ensures)
      | else-branch w ↦ rw w.found-is (finding_not c.args.self.table.words.now c.args.self.table.accepted _ _ _ _ _ _ _ c.loop-s.invariant i (sym c.in_ok-leads.ensures ∙ w.if-branch.false))
    ]

pub returns : goal.returns
returns c = finding_done c.args.self.table.words.now c.args.self.table.accepted _ _ _ _ (fits c.args.self.table.words.now c.args.self.table.accepted) _ _ _ c.loop-s.invariant (omega (arith, c.loop-s-test.false, c.counts-s-end.ensures.states))
