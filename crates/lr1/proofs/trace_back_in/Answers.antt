use mathlib.Core.Path.{sym, ◌∙◌}
use Rattle.lr1.specs.Entries.{walk_of}
use Rattle.lr1.proofs.Entered.{walk-yes, walk_list, walk_state, fits_by}
use Rattle.lr1.proofs.trace_back_in.Goals as goal
use Rattle.lr1.proofs.trace_back_in.Goals.{else-number-counts-via-else-number-counts, else-number-counts-via-then-number-counts+else-joined_fits}

pub trace_back_joined-requires : goal.trace_back_joined-requires
trace_back_joined-requires c = record { state_in_bounds = (rw c.counts-counts.ensures.states at c.if-number-counts.true, rw (c.counts-counts.ensures.nonterminals, c.counts-counts.ensures.terminals) at (sym c.joined_fits.ensures ∙ c.if-joined_fits.true)) }

pub returns-then-joined_fits : goal.returns-then-joined_fits
unfolding walk_of
returns-then-joined_fits c = walk-yes _ _ _ (rw c.counts-counts.ensures.states at c.if-number-counts.true) (sym (fits_by _ _ _ _ c.counts-counts.ensures.nonterminals c.counts-counts.ensures.terminals _ c.joined_fits.ensures) ∙ c.if-joined_fits.true) _ c.trace_back_joined.ensures

pub returns-else-number-counts : goal.returns-else-number-counts
unfolding walk_of
returns-else-number-counts c = elim c.else-number-counts.branch [
  | else-number-counts-via-else-number-counts w ↦ walk_state _ _ _ (rw c.counts-counts.ensures.states at w.if-number-counts.false)
  | else-number-counts-via-then-number-counts+else-joined_fits w ↦ walk_list _ _ _ (rw c.counts-counts.ensures.states at w.if-number-counts.true) (sym (fits_by _ _ _ _ c.counts-counts.ensures.nonterminals c.counts-counts.ensures.terminals _ w.joined_fits.ensures) ∙ w.if-joined_fits.false)
]
