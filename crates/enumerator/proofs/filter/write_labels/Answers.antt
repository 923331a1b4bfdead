use Rattle.std.specs.Prelude.{ℕ, ◌%◌}
use mathlib.Core.Path.{refl, ap}
use lib.ListN.{length-set}
use Rattle.lr1_base.specs.repr.Sizes.{item_limit}
use Rattle.enumerator.proofs.filter.Reading.{tried_long, reading_first, reading_few, reading_room, reading_low, reading_again, reading_labels, reading_fit}
use native.Mathlib.Omega.{arith}
use Rattle.enumerator.proofs.filter.write_labels.Goals as goal

pub word-count-requires : goal.word-count-requires
word-count-requires c = omega (arith, tried_long c.requires.tried.1.1)

pub loop-at-init : goal.loop-at-init
loop-at-init c = λ ps es T. reading_first T c.requires.labels_room_in_bounds c.word-count.ensures.0

pub word-edge-requires : goal.word-edge-requires
word-edge-requires c = let R = c.loop-at.invariant _ _ c.requires.tried.1.1 in (reading_room R c.loop-at-test.true).1.0

pub word-requires : goal.word-requires
word-requires c = let R = c.loop-at.invariant _ _ c.requires.tried.1.1 in (reading_low R c.loop-at-test.true c.word-edge.ensures.0).1

pub bounds-edges-edge : goal.bounds-edges-edge
bounds-edges-edge c = let R = c.loop-at.invariant _ _ c.requires.tried.1.1 in (reading_low R c.loop-at-test.true c.word-edge.ensures.0).0

pub bounds-labels-place : goal.bounds-labels-place
bounds-labels-place c = let R = c.loop-at.invariant _ _ c.requires.tried.1.1 in omega (arith, (reading_room R c.loop-at-test.true).1.1)

pub bounds-labels-place-in-loop-at : goal.bounds-labels-place-in-loop-at
bounds-labels-place-in-loop-at c = let R = c.loop-at.invariant _ _ c.requires.tried.1.1 in let r = (reading_room R c.loop-at-test.true).1.1 in simp length-set (omega arith)

pub bounds-labels-place-in-loop-at-2 : goal.bounds-labels-place-in-loop-at-2
bounds-labels-place-in-loop-at-2 c = let R = c.loop-at.invariant _ _ c.requires.tried.1.1 in let r = (reading_room R c.loop-at-test.true).1.1 in simp length-set (omega arith)

pub loop-at-preserved : goal.loop-at-preserved
loop-at-preserved c = λ ps es T. reading_again (c.loop-at.invariant ps es T) c.loop-at-test.true c.word-edge.ensures.0 refl (ap (λ (k : ℕ). k % item_limit) c.word.ensures.0) c.at-item.ensures.0 c.at-item.ensures.1

pub returns : goal.returns
returns c = let R = c.loop-at.invariant _ _ c.requires.tried.1.1 in record { upper_bound = (omega (arith, (reading_few R).0), λ ps es T. reading_fit (c.loop-at.invariant ps es T) c.loop-at-test.false); labels_after = λ ps es T. reading_labels (c.loop-at.invariant ps es T) c.loop-at-test.false }
