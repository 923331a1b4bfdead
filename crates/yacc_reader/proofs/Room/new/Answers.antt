use Rattle.std.proofs.Common.{arith}
use Rattle.yacc_reader.proofs.Laws.{fresh_zeros}
use Rattle.yacc_reader.proofs.Room.new.Goals as goal

pub returns : goal.returns
returns c = λ t h. fresh_zeros t h 65535 65535 67583 65535 65791 (omega arith) (omega arith) (omega arith) (omega arith) (omega arith)
