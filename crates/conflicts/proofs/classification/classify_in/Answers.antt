use mathlib.Core.Path.{sym, ◌∙◌}
use Rattle.conflicts.proofs.classification.Ways.{not-placed, token_past, conflict_fits_lem, shift_end, short_scratch, short_action, short_reduce, classified}
use native.Mathlib.Omega.{arith}
use Rattle.conflicts.proofs.classification.classify_in.Goals.{then-not-place_fits-via-then-not-place_fits, then-not-place_fits-via-else-not-place_fits+then-conflict-terminals, then-scratch-lt-SCRATCH-via-then-scratch-lt-SCRATCH, then-scratch-lt-SCRATCH-via-else-scratch-lt-SCRATCH+then-action-lt-WORDS, then-scratch-lt-SCRATCH-via-else-scratch-lt-SCRATCH+else-action-lt-WORDS+then-reduce-lt-WORDS}
use Rattle.conflicts.proofs.classification.classify_in.Goals as goal

pub returns-then-not-place_fits : goal.returns-then-not-place_fits
returns-then-not-place_fits c = elim c.then-not-place_fits.branch [
  | then-not-place_fits-via-then-not-place_fits w ↦ not-placed _ _ _ _ _ (sym c.place_fits.ensures ∙ w.if-not-place_fits.true)
  | then-not-place_fits-via-else-not-place_fits+then-conflict-terminals w ↦ token_past _ c.args.conflict _ _ _ (sym c.place_fits.ensures ∙ w.if-not-place_fits.false) _ _ _ _ c.counts-terminals.ensures (omega (arith, w.if-conflict-terminals.true))
]

pub returns-then-shifts_end : goal.returns-then-shifts_end
returns-then-shifts_end c = shift_end _ c.args.conflict _ _ _ (sym c.place_fits.ensures ∙ c.if-not-place_fits.false) _ _ _ _ c.counts-terminals.ensures (omega (arith, c.if-conflict-terminals.false)) _ c.shifts_end.ensures c.if-shifts_end.true

pub returns-then-scratch-lt-SCRATCH : goal.returns-then-scratch-lt-SCRATCH
returns-then-scratch-lt-SCRATCH c =
    elim c.then-scratch-lt-SCRATCH.branch [
      | then-scratch-lt-SCRATCH-via-then-scratch-lt-SCRATCH w ↦ short_scratch _ c.args.conflict _ _ _ (sym c.place_fits.ensures ∙ c.if-not-place_fits.false) _ _ _ _ c.counts-terminals.ensures (omega (arith, c.if-conflict-terminals.false)) _ c.shifts_end.ensures c.if-shifts_end.false w.if-scratch-lt-SCRATCH.true
      | then-scratch-lt-SCRATCH-via-else-scratch-lt-SCRATCH+then-action-lt-WORDS w ↦ short_action _ c.args.conflict _ _ _ (sym c.place_fits.ensures ∙ c.if-not-place_fits.false) _ _ _ _ c.counts-terminals.ensures (omega (arith, c.if-conflict-terminals.false)) _ c.shifts_end.ensures c.if-shifts_end.false (omega (arith, w.if-scratch-lt-SCRATCH.false)) w.if-action-lt-WORDS.true
      | then-scratch-lt-SCRATCH-via-else-scratch-lt-SCRATCH+else-action-lt-WORDS+then-reduce-lt-WORDS w ↦ short_reduce _ c.args.conflict _ _ _ (sym c.place_fits.ensures ∙ c.if-not-place_fits.false) _ _ _ _ c.counts-terminals.ensures (omega (arith, c.if-conflict-terminals.false)) _ c.shifts_end.ensures c.if-shifts_end.false (omega (arith, w.if-scratch-lt-SCRATCH.false)) (omega (arith, w.if-action-lt-WORDS.false)) w.if-reduce-lt-WORDS.true
    ]

pub classify_read-requires : goal.classify_read-requires
classify_read-requires c = record { conflict_value = conflict_fits_lem _ c.args.conflict c.args.scratch.now c.args.action.now c.args.reduce.now (sym c.place_fits.ensures ∙ c.if-not-place_fits.false) _ _ _ _ c.counts-terminals.ensures (omega (arith, c.if-conflict-terminals.false)); classify_scratch_in_bounds = (omega (arith, c.if-scratch-lt-SCRATCH.false), (omega (arith, c.if-action-lt-WORDS.false), omega (arith, c.if-reduce-lt-WORDS.false))) }

pub returns : goal.returns
returns c = classified _ c.args.conflict _ _ _ (sym c.place_fits.ensures ∙ c.if-not-place_fits.false) _ _ _ _ c.counts-terminals.ensures (omega (arith, c.if-conflict-terminals.false)) _ c.shifts_end.ensures c.if-shifts_end.false (omega (arith, c.if-scratch-lt-SCRATCH.false)) (omega (arith, c.if-action-lt-WORDS.false)) (omega (arith, c.if-reduce-lt-WORDS.false)) _ c.classify_read.ensures
