use Rattle.table.proofs.Indexes.{has_counts, counts}
use Rattle.table.proofs.accepted_table.AcceptedTable.counts.Goals as goal

pub of-requires : goal.of-requires
of-requires c = has_counts _ c.args.self.accepted

pub returns : goal.returns
returns c = let r = c.of.ensures.read in counts _ c.args.self.accepted _ _ _ _ r.0 r.1.0 r.1.1.0 r.1.1.1
