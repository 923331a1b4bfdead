use mathlib.Core.Path.{refl, ◌∙◌}
use Rattle.std.specs.Prelude.{ℕ}
use lib.ListN.{length-replicate}
use Rattle.std.proofs.lemmas.Result.{err_from_is_err_and}
use Rattle.lr1_base.specs.repr.Sizes.{production_limit}
use Rattle.table.proofs.Decoding.{fits}
use Rattle.conflict_sides.proofs.examples.Both.{state_in_lem}
use Rattle.conflict_sides.proofs.examples.Shifts.{turn_first, turn_room, trials_few, item_in_lem, turn_trials, turn_more, turn_stop, turn_end}
use native.Mathlib.Omega.{arith}
use Rattle.conflict_sides.proofs.examples.shift_examples.Goals as goal

pub conflicting_shift_items-items-requires : goal.conflicting_shift_items-items-requires
conflicting_shift_items-items-requires c = record { grammar = (record { packed = c.args.case.given.reads.packed; same = c.args.case.given.reads.same; many = c.args.case.given.reads.many }, (state_in_lem _ _ c.args.case.fits)); order_len = (length-replicate {A = ℕ} production_limit 0, refl) }

pub loop-item-init : goal.loop-item-init
loop-item-init c = (rw (c.into_iter-item-iterator.ensures.into_iter_gives, c.default-gathered.ensures.0, c.default-gathered.ensures.1) (turn_first _ _ _ _ _ c.conflicting_shift_items-items.ensures.marked c.args.side.now.room _ c.conflicting_shift_items-items.ensures.items), (refl, refl))

pub invariant_of-one : goal.invariant_of-one
invariant_of-one c = record { fits = ((state_in_lem _ _ c.args.case.fits), item_in_lem _ (fits _ c.args.case.given.reads.accepted) _ _ (state_in_lem _ _ c.args.case.fits) _ _ _ _ _ c.loop-item.invariant.0 _ _ _ c.in-Some.ensures.steps.0) }

pub list_item-requires : goal.list_item-requires
list_item-requires c = turn_room _ _ _ _ _ _ _ _ c.loop-item.invariant.0

pub overflow_add-gathered : goal.overflow_add-gathered
overflow_add-gathered c =
    let b = turn_trials _ (fits _ c.args.case.given.reads.accepted) _ _ (state_in_lem _ _ c.args.case.fits) _ _ _ _ _ c.loop-item.invariant.0 _ _ _ c.in-Some.ensures.steps.0 _ (trials_few _ _ c.in_ok-listed.was c.list_item.ensures.trials_in) in
    omega (arith, b)

pub loop-item-preserved : goal.loop-item-preserved
loop-item-preserved c = (turn_more _ (fits _ c.args.case.given.reads.accepted) _ _ (state_in_lem _ _ c.args.case.fits) _ _ _ _ _ c.loop-item.invariant.0 _ _ _ c.in-Some.ensures.steps.0 _ _ _ c.list_item.ensures.listed_on _ c.in_ok-listed.was c.list_item.ensures.trials_in c.list_item.new.side.room, (c.list_item.ensures.same.0 ∙ c.loop-item.invariant.1.0, c.list_item.ensures.same.1 ∙ c.loop-item.invariant.1.1))

pub returns-in_err-listed : goal.returns-in_err-listed
returns-in_err-listed c =
    let p = err_from_is_err_and c.from_residual.result c.from_residual.ensures.1 in
    record { sided = rw (p.1, p.2) (turn_stop _ (fits _ c.args.case.given.reads.accepted) _ _ (state_in_lem _ _ c.args.case.fits) _ _ _ _ _ c.loop-item.invariant.0 _ _ _ c.in-Some.ensures.steps.0 _ _ _ c.list_item.ensures.listed_on _ c.in_err-listed.was); same = (c.list_item.ensures.same.0 ∙ c.loop-item.invariant.1.0, c.list_item.ensures.same.1 ∙ c.loop-item.invariant.1.1) }

pub returns : goal.returns
returns c = record { sided = turn_end _ _ _ _ _ _ _ c.loop-item.invariant.0 c.in-None.ensures.steps.0.0; same = c.loop-item.invariant.1 }
