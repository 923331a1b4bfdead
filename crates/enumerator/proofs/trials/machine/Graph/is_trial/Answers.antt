use Rattle.std.proofs.Common.{ℕ, get_or, ap, ◌∙◌, arith}
use Rattle.enumerator.proofs.trials.Holding.{trial_first, trial_edge, trial_ends, trial_cycles, trial_again, trial_stops, trial_last}
use Rattle.enumerator.proofs.trials.machine.Graph.is_trial.Goals as goal
use Rattle.enumerator.proofs.trials.machine.Graph.is_trial.Goals.{then-node-ne0-via-then-node-ne0, then-node-ne0-via-else-node-ne0+then-uses}

pub loop-at-init : goal.loop-at-init
loop-at-init c = rw c.item-node.ensures (trial_first c.requires.started c.requires.depth_nonzero.0)

pub source-node-requires : goal.source-node-requires
source-node-requires c = record { edge_bound = trial_edge c.loop-at.invariant c.requires.depth_nonzero.1 c.word-edge.result c.word-edge.ensures.0 c.enters.result c.enters.ensures (omega arith) c.if-not-enters.false }

pub returns-then-node-ne0 : goal.returns-then-node-ne0
returns-then-node-ne0 c = elim c.then-node-ne0.branch [
  | then-node-ne0-via-then-node-ne0 w ↦ trial_ends c.loop-at.invariant c.requires.depth_nonzero.1 c.word-edge.result c.word-edge.ensures.0 c.enters.result c.enters.ensures (omega arith) c.if-not-enters.false c.source-node.result c.source-node.ensures.0 w.if-node-ne0.true
  | then-node-ne0-via-else-node-ne0+then-uses w ↦ trial_cycles c.loop-at.invariant c.requires.depth_nonzero.1 c.word-edge.result c.word-edge.ensures.0 c.enters.result c.enters.ensures (omega arith) c.if-not-enters.false c.source-node.result c.source-node.ensures.0 w.if-node-ne0.false w.uses.result w.uses.ensures w.if-uses.true
]

pub loop-at-preserved : goal.loop-at-preserved
loop-at-preserved c = trial_again c.loop-at.invariant c.requires.depth_nonzero.1 c.word-edge.result c.word-edge.ensures.0 c.enters.result c.enters.ensures (omega arith) c.if-not-enters.false c.source-node.result c.source-node.ensures.0 c.if-node-ne0.false c.uses.result c.uses.ensures c.if-uses.false c.source-node.ensures.1

pub returns-then-not-enters : goal.returns-then-not-enters
returns-then-not-enters c = trial_stops c.loop-at.invariant c.requires.depth_nonzero.1 c.word-edge.result c.word-edge.ensures.0 c.enters.result c.enters.ensures (omega arith) c.if-not-enters.true

pub returns : goal.returns
returns c = trial_last c.loop-at.invariant c.requires.depth_nonzero.1 c.word.result (c.word.ensures.0 ∙ ap (λ (k : ℕ). get_or c.args.words.now k 0) (omega (arith, c.loop-at-test.false, c.loop-at.invariant.deep))) c.enters-2.result c.enters-2.ensures (omega arith)
