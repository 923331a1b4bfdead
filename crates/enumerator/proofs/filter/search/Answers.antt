use mathlib.Core.Path.{◌∙◌}
use Rattle.enumerator.proofs.trials.Counting.{counted_none}
use Rattle.enumerator.proofs.graph_view.Viewing.{view_sourced}
use Rattle.enumerator.proofs.filter.Turning.{searching_held, searching_fitting, turn_first, turn_end, turn_tried, turn_long, turn_over, turn_hit, turn_again}
use native.Mathlib.Omega.{arith}
use Rattle.enumerator.proofs.filter.search.Goals as goal

pub count_walk-requires : goal.count_walk-requires
count_walk-requires c = let S = c.requires.searching.1.1 in record { held = searching_held S; counted = counted_none }

pub loop-counts-init : goal.loop-counts-init
loop-counts-init c = ((λ es start S. turn_first S (omega arith)), c.count_walk.auto.counts, c.count_walk.ensures)

pub next-requires : goal.next-requires
next-requires c = let S = c.requires.searching.1.1 in
    let U = c.loop-counts.invariant.0 _ _ S in record { held = (searching_held U.held, searching_fitting U.held); counted_walk = c.loop-counts.invariant.2 }

pub overrun-requires : goal.overrun-requires
overrun-requires c = turn_long (c.loop-counts.invariant.0 _ _ c.requires.searching.1.1) c.next.ensures.by_index c.loop-counts-test.true

pub returns-then-made-ge-TRIALS : goal.returns-then-made-ge-TRIALS
returns-then-made-ge-TRIALS c = λ es start S. turn_over (c.loop-counts.invariant.0 es start S) c.next.ensures.by_index c.loop-counts-test.true (omega (arith, c.if-made-ge-TRIALS.true)) c.overrun.ensures

pub hands-requires : goal.hands-requires
hands-requires c = record { tried = (c.requires.searching.0, (turn_tried (c.loop-counts.invariant.0 _ _ c.requires.searching.1.1) c.next.ensures.by_index c.loop-counts-test.true, view_sourced c.requires.searching.1.1.view)) }

pub returns-then-hands : goal.returns-then-hands
returns-then-hands c = λ es start S.
    let U = c.loop-counts.invariant.0 es start S in
    let T = turn_tried U c.next.ensures.by_index c.loop-counts-test.true in
    turn_hit U c.next.ensures.by_index c.loop-counts-test.true (omega (arith, c.if-made-ge-TRIALS.false)) (c.hands.ensures es T (view_sourced S.view)) (omega arith) c.if-hands.true

pub loop-counts-preserved : goal.loop-counts-preserved
loop-counts-preserved c = (
  (λ es start S.
      let U = c.loop-counts.invariant.0 es start S in
      let T = turn_tried U c.next.ensures.by_index c.loop-counts-test.true in
      turn_again U c.next.ensures.by_index c.loop-counts-test.true (omega (arith, c.if-made-ge-TRIALS.false)) (c.hands.ensures es T (view_sourced S.view)) (omega arith) c.if-hands.false c.next.auto.words),
  c.next.auto.counts ∙ c.loop-counts.invariant.1,
  c.next.ensures.counted_walk_2,
)

pub returns : goal.returns
returns c = λ es start S. turn_end (c.loop-counts.invariant.0 es start S) c.next.ensures.by_index c.loop-counts-test.false (omega arith)
