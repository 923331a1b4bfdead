use mathlib.Core.Path.{sym, ◌∙◌}
use Rattle.lr1.proofs.Entered.{first1-yes, first1-set, first1_list, list_wider}
use Rattle.lr1.proofs.first1_in.Goals as goal
use Rattle.lr1.proofs.first1_in.Goals.{else-list_fits-via-else-list_fits, else-list_fits-via-then-list_fits+else-fits}

pub first1-requires : goal.first1-requires
first1-requires c = list_wider _ _ 32 63 _ (rw c.counts-counts.ensures.nonterminals c.counts-counts.ensures.fits.few_nonterminals) (rw c.counts-counts.ensures.terminals c.counts-counts.ensures.fits.few_terminals) (sym c.list_fits.ensures ∙ c.if-list_fits.true)

pub returns-then-fits : goal.returns-then-fits
returns-then-fits c = first1-yes _ _ _ _ c.counts-counts.ensures.nonterminals c.counts-counts.ensures.terminals _ c.list_fits.ensures _ c.if-list_fits.true _ c.fits.ensures c.if-fits.true _ c.first_sets.ensures.is _ (rw (c.first_sets.ensures.terminals ∙ sym c.counts-counts.ensures.terminals) at c.first1.ensures)

pub returns-else-list_fits : goal.returns-else-list_fits
returns-else-list_fits c = elim c.else-list_fits.branch [
  | else-list_fits-via-else-list_fits w ↦ first1_list _ _ _ _ c.counts-counts.ensures.nonterminals c.counts-counts.ensures.terminals _ c.list_fits.ensures _ w.if-list_fits.false
  | else-list_fits-via-then-list_fits+else-fits w ↦ first1-set _ _ _ _ c.counts-counts.ensures.nonterminals c.counts-counts.ensures.terminals _ c.list_fits.ensures _ w.if-list_fits.true _ w.fits.ensures w.if-fits.false
]
