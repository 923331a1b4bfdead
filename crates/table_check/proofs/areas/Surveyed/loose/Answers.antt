use Rattle.table_check.proofs.Ways.{loose-area}
use Rattle.table_check.proofs.areas.Surveyed.loose.Goals as goal

pub returns-clause-records : goal.returns-clause-records
returns-clause-records c = loose-area _ _ c.args.self.of
