use Rattle.std.proofs.Common.{sym, ap, ◌∙◌, List, ℕ}
use Rattle.std.proofs.lemmas.Result.{err_from_is_err_and}
use Rattle.table.specs.Decoded.{meaning}
use Rattle.enumerator.specs.trials.Advance.{open_in}
use Rattle.listing.proofs.Entered.{open_refused, open_accepted}
use Rattle.listing.proofs.open_listing.Goals as goal

pub returns-in_err-check : goal.returns-in_err-check
returns-in_err-check c =
    let p = err_from_is_err_and c.from_residual.result c.from_residual.ensures.1 in
    rw (p.1, p.2) (open_refused _ _ _ _ _ _ (sym c.in_err-check.ensures.answer))

pub returns : goal.returns
returns c = open_accepted _ _ _ _ (sym c.in_ok-check.ensures.answer) _ (c.open_in.ensures ∙ ap (λ (ws : List ℕ). open_in (record { production = c.args.production.0; index = c.args.index }) c.args.lookahead c.args.graph.now (meaning ws)) c.in_ok-check.ensures.same)
