use Rattle.lr1_tables.proofs.sizes.Laws.{few_begins, few_states, records_are}
use native.Mathlib.Omega.{arith}
use Rattle.lr1_tables.proofs.sizes.table_records.Goals as goal

pub overflow_add-result-2 : goal.overflow_add-result-2
overflow_add-result-2 c = omega (arith, few_begins _ _ _ c.requires, few_states _ _ _ c.requires, c.requires.small)

pub overflow_add-result-3 : goal.overflow_add-result-3
overflow_add-result-3 c = omega (arith, few_begins _ _ _ c.requires, few_states _ _ _ c.requires, c.requires.small, c.requires.all.few)

pub returns : goal.returns
returns c = λ s. records_are _ _ _ s
