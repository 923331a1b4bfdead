use Rattle.yacc_writer.proofs.Laws.{number_one, number_two}
use mathlib.Core.Path.{refl}
use native.Mathlib.Omega.{arith}
use Rattle.yacc_writer.proofs.put_number.Goals as goal

pub returns-then-n-lt10 : goal.returns-then-n-lt10
returns-then-n-lt10 c = number_one _ (omega arith) refl c.put.ensures

pub returns : goal.returns
returns c = number_two _ (omega arith) (omega (arith, c.requires)) refl refl c.put-next.ensures c.put-2.ensures
