use Rattle.lr1_tables.proofs.conflict_words.Laws.{pair_words_lem, pair-none, pair-room}
use Rattle.lr1_base.proofs.words.Put.{turn_start, turn_next, turn_end}
use mathlib.Core.Path.{refl}
use native.Mathlib.Omega.{arith}
use Rattle.lr1_tables.proofs.conflict_words.write_pairs.Goals as goal

pub loop-other-init : goal.loop-other-init
loop-other-init c = turn_start _ _ _ _ refl c.requires.production_in_bounds

pub overflow_cast-pair : goal.overflow_cast-pair
overflow_cast-pair c = omega (arith, c.requires.production_lt_productions, c.args.actions.now.few)

pub overflow_cast-pair-in-loop-other : goal.overflow_cast-pair-in-loop-other
overflow_cast-pair-in-loop-other c = omega (arith, c.args.actions.now.few, c.loop-other-test.true)

pub common-requires : goal.common-requires
common-requires c = (omega (arith, c.requires.production_lt_productions, c.args.actions.now.few), omega (arith, c.args.actions.now.few, c.loop-other-test.true))

pub write_tokens-place-requires : goal.write_tokens-place-requires
write_tokens-place-requires c = pair-room c.args.state c.args.actions.now.reductions c.args.production c.loop-other.other c.args.actions.now.productions c.common.result.0 _ _ _ _ _ c.loop-other.invariant c.loop-other-test.true c.common.ensures

pub loop-other-preserved : goal.loop-other-preserved
loop-other-preserved c = turn_next c.loop-other.invariant _ _ (pair_words_lem c.args.state c.args.actions.now.reductions c.args.production c.loop-other.other c.args.actions.now.productions c.common.result.0 c.loop-other-test.true c.common.ensures) _ c.write_tokens-place.ensures.0 _ c.write_tokens-place.ensures.1

pub shape_of-list : goal.shape_of-list
shape_of-list c = c.loop-other.invariant.size

pub returns : goal.returns
returns c = turn_end c.loop-other.invariant (pair-none c.args.state c.args.actions.now.reductions c.args.production c.loop-other.other c.args.actions.now.productions c.loop-other-test.false)
