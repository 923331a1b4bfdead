use mathlib.Core.Path.{refl, sym, ◌∙◌}
use native.Mathlib.Omega.{arith}
use Rattle.conflicts.proofs.Seen.{action_within, reduce_within, action_few, reduce_few, action_returned, reduce_returned, none_returned}
use Rattle.conflicts.proofs.observed.Goals as goal

pub overflow_add-result : goal.overflow_add-result
overflow_add-result c = let k = action_few _ _ _ (sym c.observed_part.ensures ∙ c.in-Action.is) in omega (arith, k, c.type_inv.action 1)

pub slice_bounds-result-end-in-Action : goal.slice_bounds-result-end-in-Action
slice_bounds-result-end-in-Action c = action_within _ _ _ (sym c.observed_part.ensures ∙ c.in-Action.is) c.in-Action.words-test.1

pub overflow_add-result-in-Reduce : goal.overflow_add-result-in-Reduce
overflow_add-result-in-Reduce c = let k = reduce_few _ _ _ (sym c.observed_part.ensures ∙ c.in-Reduce.is) in omega (arith, k, c.type_inv.reduce 1)

pub slice_bounds-result-end-in-Reduce : goal.slice_bounds-result-end-in-Reduce
slice_bounds-result-end-in-Reduce c = reduce_within _ _ _ (sym c.observed_part.ensures ∙ c.in-Reduce.is)

pub returns-in-Action-eq0 : goal.returns-in-Action-eq0
returns-in-Action-eq0 c = let whole = none_returned _ _ _ (sym c.observed_part.ensures ∙ c.in-Action-eq0.is) (omega (arith, c.in-Action-eq0.field-0-test)) in
    record { result_value = whole.0; result_value_2 = whole.1 }

pub returns-in-Action : goal.returns-in-Action
returns-in-Action c = let whole = action_returned _ _ _ _ refl (sym c.observed_part.ensures ∙ c.in-Action.is) in
    record { result_value = whole.0; result_value_2 = whole.1 }

pub returns-in-Reduce : goal.returns-in-Reduce
returns-in-Reduce c = let whole = reduce_returned _ _ _ _ refl (sym c.observed_part.ensures ∙ c.in-Reduce.is) in
    record { result_value = whole.0; result_value_2 = whole.1 }
