use Rattle.table_check.proofs.Ways.{production_area_lem}
use Rattle.table_check.proofs.areas.Surveyed.productions.Goals as goal

pub returns-clause-records : goal.returns-clause-records
returns-clause-records c = production_area_lem _ _ c.args.self.of
