use Rattle.std.proofs.Common.{sym, ap, ◌∙◌, List, ℕ}
use Rattle.std.proofs.lemmas.Result.{err_from_is_err_and}
use Rattle.table.specs.Decoded.{meaning}
use Rattle.lr1_tables.specs.Outcome.{built_in}
use Rattle.lr1_tables.proofs.Ways.{build-refused, build_checked}
use Rattle.lr1_tables.proofs.build_states.Goals as goal

pub returns-in_err-accepted : goal.returns-in_err-accepted
returns-in_err-accepted c = let q = err_from_is_err_and c.from_residual.result c.from_residual.ensures.1 in rw (q.1, q.2) (build-refused _ _ _ _ _ _ _ (sym c.in_err-accepted.ensures.answer))

pub returns : goal.returns
returns c = build_checked _ _ _ _ _ (sym c.in_ok-accepted.ensures.answer) _ (c.build_in.ensures
    ∙ ap (λ (ws : List ℕ). built_in (meaning ws) c.args.start.0 c.args.scratch.now c.args.out.now c.args.conflicts.now) c.in_ok-accepted.ensures.same)
