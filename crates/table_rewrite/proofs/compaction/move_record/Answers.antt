use mathlib.Core.Path.{◌∙◌}
use native.Mathlib.Omega.{arith}
use Rattle.table_rewrite.proofs.compaction.move_record.Goals as goal

pub overflow_cast-next : goal.overflow_cast-next
overflow_cast-next c = omega (arith, c.type_inv.numbers c.word-x.result)

pub put-requires : goal.put-requires
put-requires c = let f = c.type_inv.numbers c.word-x.result in record { r_lt_record_limit = (omega arith, omega arith); a_bound = (f.fits, (c.word-one.ensures.1, (c.word-two.ensures.1, c.word-three.ensures.1))) }

pub returns : goal.returns
returns c = c.put.ensures ∙ rw (c.word-x.ensures.0, c.word-one.ensures.0, c.word-two.ensures.0, c.word-three.ensures.0)
