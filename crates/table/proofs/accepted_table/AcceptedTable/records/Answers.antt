use Rattle.table.proofs.Indexes.{records_are}
use Rattle.table.proofs.accepted_table.AcceptedTable.records.Goals as goal

pub returns-clause-is : goal.returns-clause-is
returns-clause-is c = (records_are _ c.args.self.accepted).0

pub returns-clause-few : goal.returns-clause-few
returns-clause-few c = (records_are _ c.args.self.accepted).1
