use Rattle.std.proofs.Common.{sym, ap, ◌∙◌, List, ℕ}
use Rattle.std.proofs.lemmas.Result.{err_from_is_err_and}
use Rattle.table.specs.Decoded.{meaning}
use Rattle.lr1.specs.Edges.{add_edge_of, added_edge_in}
use Rattle.lr1.proofs.Graphs.{edge_between}
use Rattle.lr1.proofs.Entered.{over-refused, over_accepted}
use Rattle.lr1.proofs.add_edge.Goals as goal

pub returns-in_err-accepted : goal.returns-in_err-accepted
unfolding add_edge_of
returns-in_err-accepted c =
    let p = err_from_is_err_and c.from_residual.result c.from_residual.ensures.1 in
    rw (p.1, p.2) (over-refused _ _ _ _ _ _ (sym c.in_err-accepted.ensures.answer))

pub returns : goal.returns
unfolding add_edge_of
returns c = over_accepted _ _ _ _ (sym c.in_ok-accepted.ensures.answer) _ ((rw (c.of.ensures.0, c.of.ensures.1) at c.add_edge_in.ensures) ∙ ap (λ (ws : List ℕ). added_edge_in (record { source = c.words.result; target = c.words-2.result; label = record { production = c.args.production.0; index = c.args.index } }) c.args.graph.now (meaning ws)) c.in_ok-accepted.ensures.same)
    ∙ edge_between _ _ _ _ c.words.ensures c.words-2.ensures
