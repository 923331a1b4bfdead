use native.Mathlib.Omega.{arith}
use Rattle.std.proofs.lemmas.Result.{err_from_is_err_and}
use Rattle.conflicts.proofs.choice.Choices.{naive_few, chosen-halts, chosen-better, chosen_naive}
use Rattle.conflicts.proofs.choice.choose_gathered.Goals as goal

pub returns-in_err-choose_tokens : goal.returns-in_err-choose_tokens
returns-in_err-choose_tokens c =
    let p = err_from_is_err_and c.from_residual.result c.from_residual.ensures.1 in
    rw (p.1, p.2) (chosen-halts _ c.args.choice.conflict _ _ _ _ c.choose_tokens.ensures.added _ c.in_err-choose_tokens.was c.choose_tokens.ensures.counts)

pub answer-requires : goal.answer-requires
answer-requires c = c.choose_tokens.new.better.few

pub returns-then-better-ne0 : goal.returns-then-better-ne0
returns-then-better-ne0 c = chosen-better _ c.args.choice.conflict _ _ _ _ c.choose_tokens.ensures.added c.in_ok-choose_tokens.was c.if-better-ne0.true _ c.answer.ensures

pub answer-requires-2 : goal.answer-requires-2
answer-requires-2 c = naive_few _ _ _ 0 _ c.naive_chosen-count.ensures (omega (arith, c.choose_tokens.new.naive.few))

pub returns : goal.returns
returns c = chosen_naive _ c.args.choice.conflict _ _ _ _ c.choose_tokens.ensures.added c.in_ok-choose_tokens.was c.if-better-ne0.false _ c.naive_chosen-count.ensures _ c.answer-2.ensures
