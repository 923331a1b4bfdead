use mathlib.Core.Path.{refl}
use Rattle.std.proofs.lemmas.Result.{err_from_is_err_and}
use Rattle.lr1_tables.specs.sizes.Complete.{collection}
use Rattle.lr1_tables.specs.Ended.{complete}
use Rattle.lr1_tables.proofs.Found.{table_found, stops-answer, few_records, few_conflicts, list_room, laid, full-answer}
use native.Mathlib.Omega.{arith}
use Rattle.lr1_tables.proofs.write_found.Goals as goal

pub returns-in_err-measured : goal.returns-in_err-measured
returns-in_err-measured c = let q = err_from_is_err_and c.from_residual.result c.from_residual.ensures.1 in λ T s S. rw (q.1, q.2.0, q.2.1) (stops-answer s _ (c.measure.ensures (complete s)) c.in_err-measured.was S)

pub write_table-requires : goal.write_table-requires
write_table-requires c = let s = c.requires.1 in (table_found s, laid s _ (c.measure.ensures (complete s)) c.in_ok-measured.was refl)

pub write_conflicts-requires : goal.write_conflicts-requires
write_conflicts-requires c = let s = c.requires.1 in (collection _ _ _ (complete s), list_room s _ (c.measure.ensures (complete s)) c.in_ok-measured.was)

pub overflow_cast-result : goal.overflow_cast-result
overflow_cast-result c = let s = c.requires.1 in let l = few_records s _ (c.measure.ensures (complete s)) c.in_ok-measured.was in omega arith

pub overflow_cast-result-2 : goal.overflow_cast-result-2
overflow_cast-result-2 c = let s = c.requires.1 in let l = few_conflicts s _ (c.measure.ensures (complete s)) c.in_ok-measured.was in omega arith

pub returns : goal.returns
returns c = λ T s. let h = c.measure.ensures (complete s) in full-answer s _ h c.in_ok-measured.was _ _ (c.write_table.ensures (table_found s) (laid s _ h c.in_ok-measured.was refl)) (c.write_conflicts.ensures (collection _ _ _ (complete s)) (list_room s _ h c.in_ok-measured.was))
