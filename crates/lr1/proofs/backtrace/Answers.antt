use mathlib.Core.Path.{sym}
use Rattle.std.proofs.lemmas.Result.{err_from_is_err_and}
use Rattle.lr1.proofs.Graphs.{trace_refused, trace_accepted}
use Rattle.lr1.proofs.backtrace.Goals as goal

pub returns-in_err-accepted : goal.returns-in_err-accepted
returns-in_err-accepted c = let p = err_from_is_err_and c.from_residual.result c.from_residual.ensures.1 in rw (p.1, p.2) (trace_refused _ _ _ _ _ _ _ _ _ (sym c.in_err-accepted.ensures.answer))

pub returns : goal.returns
returns c = trace_accepted _ _ _ _ _ _ _ _ (sym c.in_ok-accepted.ensures.answer) (rw c.in_ok-accepted.ensures.same at c.trace_in.ensures)
