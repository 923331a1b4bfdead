use Rattle.table.proofs.Accepted.{rows_first}
use Rattle.print_table.proofs.write_table.Goals as goal

pub survey-requires : goal.survey-requires
survey-requires g c = let r = rows_first _ c.args.table.accepted in record { words = r.0; counts = r.1 }
