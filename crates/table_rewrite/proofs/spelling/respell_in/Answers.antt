use Rattle.std.proofs.Common.{arith}
use Rattle.table_rewrite.proofs.spelling.Areas.{sized}
use Rattle.table_rewrite.proofs.spelling.All.{written_many, written_short, written_asks, written-done}
use Rattle.table_rewrite.proofs.spelling.respell_in.Goals as goal
use Rattle.table_rewrite.proofs.spelling.respell_in.Goals.{then-at-gt-RECORDS-via-then-at-gt-RECORDS, then-at-gt-RECORDS-via-else-at-gt-RECORDS+then-at-out}

pub survey-requires : goal.survey-requires
survey-requires c = sized _ c.args.table.accepted

pub returns-then-at-gt-RECORDS : goal.returns-then-at-gt-RECORDS
returns-then-at-gt-RECORDS c = elim c.then-at-gt-RECORDS.branch [
  | then-at-gt-RECORDS-via-then-at-gt-RECORDS w ↦ written_many _ _ _ c.measure-at.ensures.records w.if-at-gt-RECORDS.true
  | then-at-gt-RECORDS-via-else-at-gt-RECORDS+then-at-out w ↦ written_short _ _ _ c.measure-at.ensures.records w.if-at-out.true
]

pub write_all-requires-clause-items : goal.write_all-requires-clause-items
write_all-requires-clause-items c = (written_asks _ c.args.out.now _ _ _ _ c.measure-at.ensures (omega arith) (omega arith)).1.0

pub write_all-requires-clause-edges : goal.write_all-requires-clause-edges
write_all-requires-clause-edges c = (written_asks _ c.args.out.now _ _ _ _ c.measure-at.ensures (omega arith) (omega arith)).1.1.0

pub returns : goal.returns
returns c = written-done _ _ _ _ _ _ c.measure-at.ensures (omega arith) (omega arith) _ c.write_all.ensures
