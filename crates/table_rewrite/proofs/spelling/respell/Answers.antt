use Rattle.std.proofs.Common.{sym, ap, ◌∙◌, List, ℕ}
use Rattle.std.proofs.lemmas.Result.{err_from_is_err_and}
use Rattle.table.specs.Decoded.{meaning}
use Rattle.table_rewrite.specs.spelling.Outcome.{written_of}
use Rattle.table_rewrite.proofs.spelling.Wrote.{respell-refused, respell_accepted}
use Rattle.table_rewrite.proofs.spelling.respell.Goals as goal

pub returns-in_err-accepted : goal.returns-in_err-accepted
returns-in_err-accepted c =
    let p = err_from_is_err_and c.from_residual.result c.from_residual.ensures.1 in
    rw (p.1, p.2) (sym (respell-refused _ _ _ _ (sym c.in_err-accepted.ensures.answer)))

pub returns : goal.returns
returns c =
    c.respell_in.ensures
    ∙ ap (λ (ws : List ℕ). written_of (meaning ws) c.args.out.now) c.in_ok-accepted.ensures.same
    ∙ sym (respell_accepted _ _ (sym c.in_ok-accepted.ensures.answer))
