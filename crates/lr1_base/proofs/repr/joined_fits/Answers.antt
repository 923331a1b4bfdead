use borrow.Author.Tests.{eqb-true, eqb-false}
use mathlib.Core.Path.{sym, ◌∙◌}
use Rattle.lr1_base.proofs.repr.Lists.{clash}
use Rattle.lr1_base.proofs.repr.Joined.{even_in, even_out, odd_alone, front_out, symbol_in, symbol-out}
use Rattle.lr1_base.proofs.repr.joined_fits.Goals as goal
use Rattle.lr1_base.proofs.repr.joined_fits.Goals.{then-list_fits-2, else-list_fits-2}

pub returns-then-list_fits : goal.returns-then-list_fits
returns-then-list_fits c = even_in _ _ _ _ c.if-xs-eq0.true (sym c.list_fits.ensures ∙ c.if-list_fits.true) _ c.list_fits-then-list_fits.ensures

pub returns-else-list_fits : goal.returns-else-list_fits
returns-else-list_fits c = c.if-list_fits.false ∙ even_out _ _ _ _ c.if-xs-eq0.true (sym c.list_fits.ensures ∙ c.if-list_fits.false)

pub returns-then-is_empty : goal.returns-then-is_empty
returns-then-is_empty c = odd_alone _ _ c.args.xs.now c.args.ys.now c.if-xs-eq0.false (eqb-true _ _ (sym c.is_empty.ensures ∙ c.if-is_empty.true))

pub returns-then-symbol_fits : goal.returns-then-symbol_fits
returns-then-symbol_fits c = elim c.if-list_fits-2.branch [
  | then-list_fits-2 w ↦ symbol_in _ _ c.args.xs.now c.args.ys.now c.if-xs-eq0.false (eqb-false _ _ (sym c.is_empty.ensures ∙ c.if-is_empty.false)) (sym c.list_fits-2.ensures ∙ w.if-list_fits-2.true) _ _ w.word.ensures.0 w.word-then-list_fits-2.ensures.0 (sym w.symbol_fits.ensures ∙ sym w.value-is ∙ c.if-symbol_fits.true) _ c.list_fits-then-symbol_fits.ensures
  | else-list_fits-2 w ↦ clash _ c.if-symbol_fits.true (w.value-is ∙ w.if-list_fits-2.false)
]

pub returns-else-symbol_fits : goal.returns-else-symbol_fits
returns-else-symbol_fits c = elim c.if-list_fits-2.branch [
  | then-list_fits-2 w ↦ c.if-symbol_fits.false ∙ symbol-out _ _ c.args.xs.now c.args.ys.now c.if-xs-eq0.false (eqb-false _ _ (sym c.is_empty.ensures ∙ c.if-is_empty.false)) (sym c.list_fits-2.ensures ∙ w.if-list_fits-2.true) _ _ w.word.ensures.0 w.word-then-list_fits-2.ensures.0 (sym w.symbol_fits.ensures ∙ sym w.value-is ∙ c.if-symbol_fits.false)
  | else-list_fits-2 w ↦ c.if-symbol_fits.false ∙ front_out _ _ c.args.xs.now c.args.ys.now c.if-xs-eq0.false (eqb-false _ _ (sym c.is_empty.ensures ∙ c.if-is_empty.false)) (sym c.list_fits-2.ensures ∙ w.if-list_fits-2.false)
]
