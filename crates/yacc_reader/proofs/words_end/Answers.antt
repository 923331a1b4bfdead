use Rattle.std.proofs.Common.{refl, sym}
use Rattle.yacc_reader.proofs.events.Laws.{read_in, ends_in}
use Rattle.yacc_reader.proofs.words_end.Goals as goal

pub loop-token-init : goal.loop-token-init
loop-token-init c =
    let n = c.new-token-items.ensures in
    rw (c.into_iter-token-iterator.ensures.into_iter_gives, n.at) (n.text, refl)

pub loop-token-preserved : goal.loop-token-preserved
loop-token-preserved c =
    let R = read_in _ c.loop-token.token-iterator c.loop-token.invariant.0 _ _ c.in-Some.ensures.steps in
    (R.text, sym R.at)

pub returns : goal.returns
returns c =
    let i = c.loop-token.invariant in
    rw i.1 (rw i.0 at c.loop-token.token-iterator.inside, ends_in _ _ i.0 _ c.in-None.ensures.steps)
