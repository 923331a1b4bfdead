use mathlib.Core.Path.{sym, ◌∙◌}
use Rattle.state_graph.proofs.Along.{along-start, along-hit, along-more, along-done}
use native.Mathlib.Omega.{arith}
use Rattle.state_graph.proofs.Step.leads.Goals as goal

pub loop-edge-init : goal.loop-edge-init
loop-edge-init c = rw c.into_iter-edge-iterator.ensures.into_iter_gives (c.edges-edge-items.ensures.0, along-start c.args.self.table.words.now _ _ _ _ _ _ c.edges-edge-items.ensures.1)

pub returns-then-goes : goal.returns-then-goes
returns-then-goes c = along-hit c.args.self.table.words.now _ _ _ _ _ _ c.loop-edge.invariant.1 c.args.self.symbol (omega (arith, c.well_formed)) _ _ _ _ (rw c.loop-edge.invariant.0 at c.in-Some.ensures.steps.1.1) (sym c.goes.ensures ∙ c.if-goes.true)

pub loop-edge-preserved : goal.loop-edge-preserved
loop-edge-preserved c = (c.in-Some.ensures.steps.0 ∙ c.loop-edge.invariant.0, along-more c.args.self.table.words.now _ _ _ _ _ _ c.loop-edge.invariant.1 c.args.self.symbol (omega (arith, c.well_formed)) _ _ _ _ (rw c.loop-edge.invariant.0 at c.in-Some.ensures.steps.1.1) (sym c.goes.ensures ∙ c.if-goes.false))

pub returns : goal.returns
returns c = along-done c.args.self.table.words.now _ _ _ _ _ _ c.loop-edge.invariant.1 c.in-None.ensures.steps.1
