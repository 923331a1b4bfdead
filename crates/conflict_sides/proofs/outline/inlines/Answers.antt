use Rattle.std.proofs.Common.{refl, ◌∙◌}
use Rattle.conflict_sides.specs.outline.Inline.{items_inline}
use Rattle.conflict_sides.proofs.outline.Diverging.{item-inside, item_index, item-suffix, suffix-fits}
use Rattle.conflict_sides.proofs.outline.inlines.Goals as goal

pub suffix-requires : goal.suffix-requires
suffix-requires c = record { within = item-inside _ _ c.args.grammar.packed _ _ c.requires.own_fits; index_in_bounds = item_index _ _ c.args.grammar.packed _ _ c.requires.own_fits }

pub suffix-requires-in-Some : goal.suffix-requires-in-Some
suffix-requires-in-Some c =
    let f = rw c.in-Some.is at c.requires.other_fits in
    record { within = item-inside _ _ c.args.grammar.packed _ _ f; index_in_bounds = item_index _ _ c.args.grammar.packed _ _ f }

pub diverge-requires : goal.diverge-requires
diverge-requires c =
    let f = rw c.in-Some.is at c.requires.other_fits in
    record { first_value = suffix-fits _ _ c.args.grammar.packed _ _ c.requires.own_fits _ c.suffix.ensures; second_value = suffix-fits _ _ c.args.grammar.packed _ _ f _ c.suffix-in-Some.ensures }

pub returns-in-Some : goal.returns-in-Some
unfolding items_inline
returns-in-Some c =
    let f = rw c.in-Some.is at c.requires.other_fits in
    rw c.in-Some.is (c.diverge.ensures ∙ rw (item-suffix _ _ c.args.grammar.packed _ _ c.requires.own_fits _ c.suffix.ensures c.args.own refl refl, item-suffix _ _ c.args.grammar.packed _ _ f _ c.suffix-in-Some.ensures c.in-Some.other refl refl))

pub returns-in-None : goal.returns-in-None
unfolding items_inline
returns-in-None c = rw c.in-None.is refl
