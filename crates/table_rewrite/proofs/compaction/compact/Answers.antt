use Rattle.std.proofs.Common.{sym, arith}
use Rattle.std.proofs.lemmas.Result.{err_from_is_err_and}
use Rattle.table_rewrite.proofs.compaction.Called.{refused-outcome}
use Rattle.table_rewrite.proofs.compaction.Joined.{count_fits, close_answered}
use Rattle.table_rewrite.proofs.compaction.compact.Goals as goal

pub returns-in_err-check : goal.returns-in_err-check
returns-in_err-check c =
    let p = err_from_is_err_and c.from_residual.result c.from_residual.ensures.1 in
    rw (p.1, p.2) (sym (refused-outcome _ _ _ (sym c.in_err-check.ensures.answer)))

pub close_gaps-requires : goal.close_gaps-requires
close_gaps-requires c = sym c.in_ok-check.ensures.answer

pub overflow_cast-result : goal.overflow_cast-result
overflow_cast-result c = let n = count_fits _ _ (sym c.in_ok-check.ensures.answer) c.close_gaps.ensures.0 in omega arith

pub returns : goal.returns
returns c = close_answered _ _ _ (sym c.in_ok-check.ensures.answer) c.close_gaps.ensures
