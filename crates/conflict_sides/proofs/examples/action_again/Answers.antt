use Rattle.std.proofs.Common.{sym, ◌∙◌, eqb-true}
use borrow.Author.Tests.{eqb-false}
use Rattle.table.specs.Decoded.{meaning}
use Rattle.conflict_sides.proofs.examples.Both.{state_in_lem, not_shift}
use Rattle.conflict_sides.proofs.examples.Again.{is_shift_lem, code-item, action_shift, action_reduce}
use Rattle.conflict_sides.proofs.examples.action_again.Goals as goal

pub invariant_of-item : goal.invariant_of-item
invariant_of-item c = record { fits = (state_in_lem _ _ c.args.case.fits, rw (c.at.ensures.0, c.at.ensures.1) (code-item (meaning c.args.case.given.table.words.now) _ (c.requires.code_fits (is_shift_lem _ (eqb-true _ _ (sym c.is_shift.ensures ∙ c.if-is_shift.true)))))) }

pub returns-then-is_shift : goal.returns-then-is_shift
returns-then-is_shift c = action_shift _ _ _ _ _ _ (eqb-true _ _ (sym c.is_shift.ensures ∙ c.if-is_shift.true)) (rw (c.at.ensures.0, c.at.ensures.1) at c.item_again.ensures)

pub returns-else-is_shift : goal.returns-else-is_shift
returns-else-is_shift c = action_reduce _ _ _ _ _ _ (eqb-false _ _ (sym c.is_shift.ensures ∙ c.if-is_shift.false)) (rw (c.reduction.ensures.table, c.reduction.ensures.parts.0, c.reduction.ensures.parts.1, c.reduction.ensures.parts.2) at c.reduce_again.ensures)

pub reduction-requires : goal.reduction-requires
reduction-requires c = not_shift _ (sym c.is_shift.ensures ∙ c.if-is_shift.false)
