use Rattle.std.proofs.Common.{sym, ap, ◌∙◌, List, ℕ, ◌++◌}
use Rattle.std.proofs.lemmas.Result.{err_from_is_err_and}
use Rattle.table.specs.Decoded.{meaning}
use Rattle.lr1.specs.Entries.{trace_back_of, trace_back_answer, walk_of}
use Rattle.lr1.proofs.Entered.{over-refused, over_accepted}
use Rattle.lr1.proofs.trace_back_joined.Goals as goal

pub returns-in_err-states : goal.returns-in_err-states
unfolding trace_back_of walk_of
returns-in_err-states c =
    let p = err_from_is_err_and c.from_residual.result c.from_residual.ensures.1 in
    rw (p.1, p.2) (over-refused _ _ _ _ _ _ (sym c.in_err-states.ensures.answer))

pub returns : goal.returns
unfolding trace_back_of walk_of
returns c = over_accepted _ _ _ _ (sym c.in_ok-states.ensures.answer) _ (c.trace_back_in.ensures ∙ ap (λ (ws : List ℕ). trace_back_answer c.args.state.0 (c.args.xs.now ++ c.args.ys.now) (meaning ws)) c.in_ok-states.ensures.same)
