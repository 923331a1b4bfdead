use Rattle.std.proofs.lemmas.Result.{err_from_is_err_and}
use Rattle.conflicts.proofs.choice.Tokens.{turn_first, turn_end, turn_counts, turn_member, turn_room, turn_halts, turn_again, halted_few}
use Rattle.conflicts.proofs.choice.choose_tokens.Goals as goal

pub loop-token-init : goal.loop-token-init
loop-token-init c = rw (c.into_iter-token-iterator.ensures.into_iter_gives, c.iter-token-items.ensures) (turn_first _ c.args.choice.conflict _ _ _ c.requires.0 c.requires.1)

pub choose_token-requires : goal.choose_token-requires
choose_token-requires c = record { member = turn_member _ c.args.choice.conflict _ _ _ _ c.loop-token.invariant _ _ c.in-Some.ensures.steps; room = turn_room _ c.args.choice.conflict _ _ _ _ c.loop-token.invariant _ _ c.in-Some.ensures.steps }

pub loop-token-preserved : goal.loop-token-preserved
loop-token-preserved c = turn_again _ c.args.choice.conflict _ _ _ _ c.loop-token.invariant _ _ c.in-Some.ensures.steps _ _ _ c.choose_token.ensures.added c.in_ok-choose_token.was c.choose_token.ensures.counts

pub returns-in_err-choose_token : goal.returns-in_err-choose_token
returns-in_err-choose_token c =
    let p = err_from_is_err_and c.from_residual.result c.from_residual.ensures.1 in
    rw (p.1, p.2) (record { added = turn_halts _ c.args.choice.conflict _ _ _ _ c.loop-token.invariant _ _ c.in-Some.ensures.steps _ _ _ c.choose_token.ensures.added _ c.in_err-choose_token.was; counts = halted_few _ _ _ _ _ c.in_err-choose_token.was c.choose_token.ensures.counts })

pub returns : goal.returns
returns c = record { added = turn_end _ c.args.choice.conflict _ _ _ _ c.loop-token.invariant c.in-None.ensures.steps.0; counts = turn_counts _ c.args.choice.conflict _ _ _ _ c.loop-token.invariant }
