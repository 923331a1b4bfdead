use Rattle.yacc_writer.proofs.Laws.{byte-then}
use Rattle.yacc_writer.proofs.put_name.Goals as goal

pub returns : goal.returns
returns c = byte-then 2 c.put-next.ensures c.put_number.ensures
