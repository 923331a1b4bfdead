use mathlib.Core.Path.{sym, ◌∙◌}
use Rattle.conflicts.proofs.choice.Choices.{not-placed, set_past, set_fits_lem, shift_end, short_scratch, chosen-whole}
use Rattle.conflicts.proofs.choice.choose_in.Goals as goal
use Rattle.conflicts.proofs.choice.choose_in.Goals.{then-not-place_fits-via-then-not-place_fits, then-not-place_fits-via-else-not-place_fits+then-not-fits}

pub returns-then-not-place_fits : goal.returns-then-not-place_fits
returns-then-not-place_fits c = elim c.then-not-place_fits.branch [
  | then-not-place_fits-via-then-not-place_fits w ↦ not-placed _ c.args.conflict _ _ (sym c.place_fits.ensures ∙ w.if-not-place_fits.true)
  | then-not-place_fits-via-else-not-place_fits+then-not-fits w ↦ set_past _ c.args.conflict _ _ (sym c.place_fits.ensures ∙ w.if-not-place_fits.false) _ c.counts-counts.ensures.terminals _ w.fits.ensures w.if-not-fits.true
]

pub returns-then-set_shifts_end : goal.returns-then-set_shifts_end
returns-then-set_shifts_end c = shift_end _ c.args.conflict _ _ (sym c.place_fits.ensures ∙ c.if-not-place_fits.false) _ c.counts-counts.ensures.terminals _ c.fits.ensures c.if-not-fits.false _ c.set_shifts_end.ensures c.if-set_shifts_end.true

pub returns-then-scratch-lt-SCRATCH : goal.returns-then-scratch-lt-SCRATCH
returns-then-scratch-lt-SCRATCH c = short_scratch _ c.args.conflict _ _ (sym c.place_fits.ensures ∙ c.if-not-place_fits.false) _ c.counts-counts.ensures.terminals _ c.fits.ensures c.if-not-fits.false _ c.set_shifts_end.ensures c.if-set_shifts_end.false c.if-scratch-lt-SCRATCH.true

pub choose_read-requires : goal.choose_read-requires
choose_read-requires c = record { tokens_value = set_fits_lem _ c.args.conflict _ c.args.scratch.now (sym c.place_fits.ensures ∙ c.if-not-place_fits.false) _ c.counts-counts.ensures.terminals _ c.fits.ensures c.if-not-fits.false; classify_scratch_in_bounds = c.if-scratch-lt-SCRATCH.false }

pub returns : goal.returns
returns c = chosen-whole _ c.args.conflict _ _ (sym c.place_fits.ensures ∙ c.if-not-place_fits.false) _ c.counts-counts.ensures.terminals _ c.fits.ensures c.if-not-fits.false _ c.set_shifts_end.ensures c.if-set_shifts_end.false c.if-scratch-lt-SCRATCH.false _ c.choose_read.ensures
