use Rattle.std.proofs.Common.{refl, ap, ◌∙◌, arith}
use Rattle.lr1_tables.specs.conflict_words.Tokens.{token_words}
use Rattle.lr1_base.specs.repr.Lists.{joined}
use Rattle.lr1_base.proofs.repr.Lists.{joined_nil}
use Rattle.lr1_tables.proofs.conflict_words.Laws.{tokens-room, tokens-more}
use Rattle.lr1_base.proofs.words.Put.{turn_start, turn_end}
use Rattle.lr1_tables.proofs.conflict_words.write_tokens.Goals as goal

pub loop-token-init : goal.loop-token-init
loop-token-init c = rw (c.into_iter-token-iterator.ensures.into_iter_gives, c.iter-token-items.ensures) (turn_start _ _ _ _ refl c.requires)

pub write_one-requires : goal.write_one-requires
write_one-requires c = tokens-room _ _ _ _ _ _ _ _ _ c.loop-token.invariant c.in-Some.ensures.steps

pub overflow_add-place : goal.overflow_add-place
overflow_add-place c = omega (arith, tokens-room _ _ _ _ _ _ _ _ _ c.loop-token.invariant c.in-Some.ensures.steps, c.loop-token.invariant.size, c.well_formed)

pub loop-token-preserved : goal.loop-token-preserved
loop-token-preserved c = tokens-more _ _ _ _ _ _ _ _ _ c.loop-token.invariant c.in-Some.ensures.steps _ c.write_one.ensures

pub returns : goal.returns
returns c = turn_end c.loop-token.invariant (ap (joined (token_words c.args.pair)) c.in-None.ensures.steps.0 ∙ joined_nil _)
