use Rattle.lr1_tables.proofs.sizes.Laws.{edges_pass, conflicts_pass, measured}
use Rattle.lr1_tables.specs.sizes.Complete.{collection}
use Rattle.lr1_tables.proofs.sizes.measure.Goals as goal

pub returns-then-sizes-records : goal.returns-then-sizes-records
returns-then-sizes-records c = λ s. edges_pass _ _ _ s _ (c.table_records-records.ensures s) _ c.if-sizes-records.true

pub returns-then-room-conflicts : goal.returns-then-room-conflicts
returns-then-room-conflicts c = λ s. conflicts_pass _ _ _ s _ (c.table_records-records.ensures s) _ c.if-sizes-records.false _ (c.count_conflicts-conflicts.ensures.1 (collection _ _ _ s)) c.if-room-conflicts.true

pub returns : goal.returns
returns c = λ s. measured _ _ _ s _ (c.table_records-records.ensures s) _ c.if-sizes-records.false _ (c.count_conflicts-conflicts.ensures.1 (collection _ _ _ s)) c.if-room-conflicts.false c.count_conflicts-conflicts.ensures.0
