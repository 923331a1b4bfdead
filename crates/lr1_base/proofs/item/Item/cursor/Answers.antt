use Rattle.std.proofs.Common.{ltb-true, ltb-false, sym, ◌∙◌}
use Rattle.std.proofs.Math.ListN.{drop_of_length-le}
use Rattle.lr1_base.proofs.item.Item.cursor.Goals as goal

pub symbol-requires : goal.symbol-requires
symbol-requires c = record { within = c.requires; index_in_bounds = ltb-true _ _ (sym c.can_shift.ensures ∙ c.if-can_shift.true) }

pub returns-else-can_shift : goal.returns-else-can_shift
returns-else-can_shift c = drop_of_length-le _ (ltb-false _ _ (sym c.can_shift.ensures ∙ c.if-can_shift.false))
