use native.Mathlib.Omega.{arith}
use Prim.Native.Nat.{ℕ}
use lib.Seq.{length_front, length-take-le}
use mathlib.Core.Path.{sym, ap, ◌∙◌}
use lib.ListN.{length}
use Rattle.lr1_tables.specs.Outcome.{build_scratch}
use Rattle.lr1_tables.proofs.Ways.{in_short, in_unfit, in_found}
use Rattle.lr1_tables.proofs.build_in.Goals as goal
use Rattle.lr1_tables.proofs.build_in.Goals.{then-start_fits, else-start_fits}

pub returns-then-scratch-lt-SCRATCH : goal.returns-then-scratch-lt-SCRATCH
returns-then-scratch-lt-SCRATCH c = in_short _ _ _ _ _ c.if-scratch-lt-SCRATCH.true

pub slice_bounds-build_found-end-then-start_fits : goal.slice_bounds-build_found-end-then-start_fits
slice_bounds-build_found-end-then-start_fits c = sym (length-take-le build_scratch c.args.scratch.now c.if-scratch-lt-SCRATCH.false)

pub build_found-answer-requires : goal.build_found-answer-requires
build_found-answer-requires c = let l = length-take-le build_scratch c.args.scratch.now c.if-scratch-lt-SCRATCH.false in record { start_value = (sym c.start_fits.ensures ∙ c.if-start_fits.true, omega (arith, l)) }

pub zero-requires : goal.zero-requires
zero-requires c = elim c.if-start_fits.branch [
  | then-start_fits w ↦ omega (arith, ap length w.scratch-is, length_front {A = ℕ} c.args.scratch.now w.build_found-answer.new.words build_scratch w.build_found-answer.auto.words, c.if-scratch-lt-SCRATCH.false)
  | else-start_fits w ↦ omega (arith, ap length w.scratch-is, c.if-scratch-lt-SCRATCH.false)
]

pub returns : goal.returns
returns c = elim c.if-start_fits.branch [
  | then-start_fits w ↦ rw (w.answer-is, w.out-is, w.conflicts-is)
      (in_found _ _ c.args.scratch.now _ _ c.if-scratch-lt-SCRATCH.false _ (sym c.start_fits.ensures ∙ w.if-start_fits.true) w.build_found-answer.new.words (w.build_found-answer.auto.words ∙ length-take-le build_scratch c.args.scratch.now c.if-scratch-lt-SCRATCH.false)
      (rw w.scratch-is at c.zero.ensures) _ _ _ w.build_found-answer.ensures)
  | else-start_fits w ↦ rw (w.answer-is, w.out-is, w.conflicts-is) (in_unfit _ _ _ _ _ c.if-scratch-lt-SCRATCH.false _ (sym c.start_fits.ensures ∙ w.if-start_fits.false) (rw w.scratch-is at c.zero.ensures))
]
