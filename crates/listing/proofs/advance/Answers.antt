use Rattle.std.proofs.Common.{sym, ap, ◌∙◌, List, ℕ}
use Rattle.std.proofs.lemmas.Result.{err_from_is_err_and}
use Rattle.table.specs.Decoded.{meaning}
use Rattle.enumerator.specs.trials.Advance.{advance_in}
use Rattle.listing.proofs.Entered.{step-refused, step_accepted}
use Rattle.listing.proofs.advance.Goals as goal

pub returns-in_err-accepted : goal.returns-in_err-accepted
returns-in_err-accepted c =
    let p = err_from_is_err_and c.from_residual.result c.from_residual.ensures.1 in
    rw (p.1, p.2) (step-refused _ _ _ _ _ _ _ (sym c.in_err-accepted.ensures.answer))

pub returns : goal.returns
returns c = step_accepted _ _ _ _ _ (sym c.in_ok-accepted.ensures.answer) _ (c.step_in.ensures ∙ ap (λ (ws : List ℕ). advance_in c.args.graph.now c.args.listing.now c.args.scratch.now c.args.buffer.now (meaning ws)) c.in_ok-accepted.ensures.same)
