use native.Mathlib.Omega.{arith}
use Rattle.output_text.proofs.table_text.Texts.{record_area, record_loose}
use Rattle.output_text.proofs.table_text.put_record.Goals as goal

pub returns-then-reached-table : goal.returns-then-reached-table
returns-then-reached-table c = (record_area _ _ _ _ (omega (arith, c.if-reached-table.true, c.args.reached.table.of.loose_at)) c.put_area.ensures.0, c.put_area.ensures.1)

pub returns : goal.returns
returns c = (record_loose _ _ _ _ (omega (arith, c.if-reached-table.false, c.args.reached.table.of.loose_at)) c.put_loose.ensures.0, c.put_loose.ensures.1)
