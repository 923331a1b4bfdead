use mathlib.Core.Path.{sym}
use Rattle.table_rewrite.proofs.grammar_records.Owned.{record_is, record_zero}
use native.Mathlib.Omega.{arith}
use Rattle.table_rewrite.proofs.grammar_records.next_record.Goals as goal

pub overflow_add-result : goal.overflow_add-result
overflow_add-result c = omega (arith, c.in-Some.ensures.0, c.args.grammar.packed.few, c.requires)

pub returns-in-Some : goal.returns-in-Some
returns-in-Some c = λ U P e. record_is U _ _ _ _ _ _ P e (sym c.in-Some.ensures.1) c.in-Some.ensures.0

pub returns-in-None : goal.returns-in-None
returns-in-None c = λ U P e. record_zero U _ _ _ _ _ _ P e (sym c.in-None.ensures) (omega arith)
