use Rattle.std.specs.Prelude.{ℕ}
use mathlib.Core.Path.{refl, ◌∙◌}
use lib.ListN.{length-replicate}
use Rattle.enumerator.specs.graph_view.Trial.{trial_room}
use Rattle.conflict_sides.proofs.examples.Walks.{walk_searching, hits, hit-tried, walk_on, out-rest, over-rest}
use Rattle.conflict_sides.proofs.examples.Turns.{walk_zeros, out_few, turn_first, turn_full, turn_more, turn_out, turn_over, trials-told, trials-none}
use native.Mathlib.Omega.{arith}
use Rattle.conflict_sides.proofs.examples.list_outlines.Goals as goal

pub loop-number-init : goal.loop-number-init
loop-number-init c = ((length-replicate {A = ℕ} trial_room 0, omega (arith, c.requires.count_in_bounds), (refl, refl)), λ es start L. (walk_zeros _ _ _ _ _ _, turn_first _ _ _ _ _ _ _ _ _ _ c.requires.count_in_bounds))

pub search-requires : goal.search-requires
search-requires c = let X = c.requires.listable in record { searching = (X.0, (X.1.0, walk_searching _ _ _ _ _ _ _ _ _ _ _ X.1.1 _ _ (c.loop-number.invariant.1 _ _ X.1.1).0)) }

pub overflow_add-count : goal.overflow_add-count
overflow_add-count c = omega (arith, c.loop-number.invariant.0.1)

pub returns-then-count-turn-ge-EXAMPLES : goal.returns-then-count-turn-ge-EXAMPLES
returns-then-count-turn-ge-EXAMPLES c = record {
  listed_on = (λ es start L.
      let U = c.loop-number.invariant.1 es start L in
      let H = hits _ _ _ _ _ _ _ _ _ _ _ L _ _ U.0 _ _ (c.search.ensures es start (walk_searching _ _ _ _ _ _ _ _ _ _ _ L _ _ U.0)) _ c.in-Hit.is in
      turn_full _ _ _ _ _ _ _ _ _ _ _ _ _ _ U.1 _ _ (H.next _) c.if-count-turn-ge-EXAMPLES.true);
  trials_in = trials-none _;
  same = c.loop-number.invariant.0.2;
}

pub overflow_add-count-in-Hit : goal.overflow_add-count-in-Hit
overflow_add-count-in-Hit c = omega (arith, c.if-count-turn-ge-EXAMPLES.false)

pub keep_trial-requires : goal.keep_trial-requires
keep_trial-requires c = let X = c.requires.listable in
    let U = (c.loop-number.invariant.1 _ _ X.1.1).0 in record { tried = (X.0, hit-tried _ _ _ _ _ _ _ _ _ _ _ X.1.1 _ _ U _ _ (c.search.ensures _ _ (walk_searching _ _ _ _ _ _ _ _ _ _ _ X.1.1 _ _ U)) _ c.in-Hit.is); count_in_bounds = (omega (arith, c.if-count-turn-ge-EXAMPLES.false), omega (arith, c.if-count-turn-ge-EXAMPLES.false)) }

pub overflow_add-turn : goal.overflow_add-turn
overflow_add-turn c = omega (arith, c.if-count-turn-ge-EXAMPLES.false)

pub loop-number-smaller : goal.loop-number-smaller
loop-number-smaller c = omega (arith, c.if-count-turn-ge-EXAMPLES.false)

pub loop-number-preserved : goal.loop-number-preserved
loop-number-preserved c = let I = c.loop-number.invariant.0 in (
  (c.search.auto.words ∙ I.0, omega (arith, c.if-count-turn-ge-EXAMPLES.false), (c.keep_trial.ensures.same.0 ∙ I.2.0, c.keep_trial.ensures.same.1 ∙ I.2.1)),
  λ es start L.
      let U = c.loop-number.invariant.1 es start L in
      let A = c.search.ensures es start (walk_searching _ _ _ _ _ _ _ _ _ _ _ L _ _ U.0) in
      let H = hits _ _ _ _ _ _ _ _ _ _ _ L _ _ U.0 _ _ A _ c.in-Hit.is in
      let D = hit-tried _ _ _ _ _ _ _ _ _ _ _ L _ _ U.0 _ _ A _ c.in-Hit.is in
      (walk_on _ _ _ _ _ _ _ _ _ _ _ L _ _ U.0 _ _ A _ c.in-Hit.is, turn_more _ _ _ _ _ _ _ _ _ _ _ _ _ _ U.1 _ _ (H.next _) (omega (arith, c.if-count-turn-ge-EXAMPLES.false)) _ _ (c.keep_trial.ensures.put_behind es D H.found _ H.words)),
)

pub overflow_add-result : goal.overflow_add-result
overflow_add-result c = omega (arith, c.loop-number.invariant.0.1)

pub returns-in-Out : goal.returns-in-Out
returns-in-Out c = let X = c.requires.listable in
    let W = (c.loop-number.invariant.1 _ _ X.1.1).0 in record {
      listed_on = (λ es start L.
          let U = c.loop-number.invariant.1 es start L in
          turn_out _ _ _ _ _ _ _ _ _ _ _ _ _ _ U.1 _ (out-rest _ _ _ _ _ _ _ _ _ _ _ L _ _ U.0 _ _ (c.search.ensures es start (walk_searching _ _ _ _ _ _ _ _ _ _ _ L _ _ U.0)) _ c.in-Out.is _));
      trials_in = trials-told _ _ (out_few _ _ _ _ _ _ _ _ W _ _ (c.search.ensures _ _ (walk_searching _ _ _ _ _ _ _ _ _ _ _ X.1.1 _ _ W)) _ c.in-Out.is);
      same = c.loop-number.invariant.0.2;
    }

pub returns-in-Over : goal.returns-in-Over
returns-in-Over c = record {
  listed_on = (λ es start L.
      let U = c.loop-number.invariant.1 es start L in
      turn_over _ _ _ _ _ _ _ _ _ _ _ _ _ _ U.1 (over-rest _ _ _ _ _ _ _ _ _ _ _ L _ _ U.0 _ _ (c.search.ensures es start (walk_searching _ _ _ _ _ _ _ _ _ _ _ L _ _ U.0)) c.in-Over.is _));
  trials_in = trials-none _;
  same = c.loop-number.invariant.0.2;
}
