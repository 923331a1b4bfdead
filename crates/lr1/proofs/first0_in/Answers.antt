use mathlib.Core.Path.{sym, ◌∙◌}
use Rattle.lr1.proofs.Entered.{first0-yes, first0_no, list_wider}
use Rattle.lr1.proofs.first0_in.Goals as goal

pub first0_joined-requires : goal.first0_joined-requires
first0_joined-requires c = list_wider _ _ 32 63 _ (rw c.counts-counts.ensures.nonterminals c.counts-counts.ensures.fits.few_nonterminals) (rw c.counts-counts.ensures.terminals c.counts-counts.ensures.fits.few_terminals) (sym c.joined_fits.ensures ∙ c.if-joined_fits.true)

pub returns-then-joined_fits : goal.returns-then-joined_fits
returns-then-joined_fits c = first0-yes _ _ _ _ c.counts-counts.ensures.nonterminals c.counts-counts.ensures.terminals _ c.joined_fits.ensures c.if-joined_fits.true _ c.first_sets.ensures.is _ (rw (c.first_sets.ensures.terminals ∙ sym c.counts-counts.ensures.terminals) at c.first0_joined.ensures)

pub returns-else-joined_fits : goal.returns-else-joined_fits
returns-else-joined_fits c = first0_no _ _ _ _ c.counts-counts.ensures.nonterminals c.counts-counts.ensures.terminals _ c.joined_fits.ensures c.if-joined_fits.false
