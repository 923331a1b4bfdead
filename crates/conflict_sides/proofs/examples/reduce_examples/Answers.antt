use Rattle.table.proofs.Decoding.{fits}
use Rattle.conflict_sides.proofs.examples.Reduces.{reduce_made_lem}
use Rattle.conflict_sides.proofs.examples.reduce_examples.Goals as goal

pub returns : goal.returns
returns c = record { sided = reduce_made_lem _ (fits _ c.args.case.given.reads.accepted) _ _ _ c.args.case.within.1 _ c.item.ensures.action _ c.item.ensures.side _ _ _ _ _ c.list_item.new.side.room (rw c.item.ensures.table at c.list_item.ensures.listed_on); same = c.list_item.ensures.same }
