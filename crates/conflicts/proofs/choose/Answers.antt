use mathlib.Core.Path.{sym}
use Rattle.std.proofs.lemmas.Result.{err_from_is_err_and}
use Rattle.conflicts.proofs.Entered.{choose-refused, choose_accepted}
use Rattle.conflicts.proofs.choose.Goals as goal

pub returns-in_err-check : goal.returns-in_err-check
returns-in_err-check c =
    let p = err_from_is_err_and c.from_residual.result c.from_residual.ensures.1 in
    rw (p.1, p.2) (choose-refused _ _ _ _ _ (sym c.in_err-check.ensures.answer))

pub returns : goal.returns
returns c = choose_accepted _ _ _ _ _ c.in_ok-check.ensures.same (sym c.in_ok-check.ensures.answer) _ c.choose_in.ensures
