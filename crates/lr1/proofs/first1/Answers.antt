use Rattle.std.proofs.Common.{sym, ap, ◌∙◌, List, ℕ}
use Rattle.std.proofs.lemmas.Result.{err_from_is_err_and}
use Rattle.table.specs.Decoded.{meaning}
use Rattle.lr1.specs.Entries.{first1_of, first1_answer}
use Rattle.lr1.proofs.Entered.{over-refused, over_accepted}
use Rattle.lr1.proofs.first1.Goals as goal

pub returns-in_err-accepted : goal.returns-in_err-accepted
unfolding first1_of
returns-in_err-accepted c =
    let p = err_from_is_err_and c.from_residual.result c.from_residual.ensures.1 in
    rw (p.1, p.2) (over-refused _ _ _ _ _ _ (sym c.in_err-accepted.ensures.answer))

pub returns : goal.returns
unfolding first1_of
returns c = over_accepted _ _ _ _ (sym c.in_ok-accepted.ensures.answer) _ (c.first1_in.ensures ∙ ap (λ (ws : List ℕ). first1_answer c.args.symbols.now c.args.lookahead.0 (meaning ws)) c.in_ok-accepted.ensures.same)
