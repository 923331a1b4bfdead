use mathlib.Core.Path.{refl, ◌∙◌}
use Rattle.first.proofs.Rounds.{turn_start, turn_again, turn_less, turn_done}
use Rattle.first.proofs.FirstSets.new.Goals as goal

pub loop-init : goal.loop-init
loop-init c = (turn_start _ _, refl)

pub loop-smaller : goal.loop-smaller
loop-smaller c = turn_less _ _ _ c.args.grammar.packed c.requires _ _ _ c.loop.invariant.0 (rw (← c.loop.invariant.1) c.grow.ensures.0) c.grow.ensures.1 c.loop-test.true

pub loop-preserved : goal.loop-preserved
loop-preserved c = (turn_again _ _ _ c.args.grammar.packed c.requires _ _ _ c.loop.invariant.0 (rw (← c.loop.invariant.1) c.grow.ensures.0) c.grow.ensures.1 c.loop-test.true, c.grow.ensures.2 ∙ c.loop.invariant.1)

pub returns : goal.returns
returns c = record { is = turn_done _ _ _ c.args.grammar.packed c.requires _ _ _ c.loop.invariant.0 (rw (← c.loop.invariant.1) c.grow.ensures.0) c.grow.ensures.1 c.loop-test.false; terminals = c.grow.ensures.2 ∙ c.loop.invariant.1 }
