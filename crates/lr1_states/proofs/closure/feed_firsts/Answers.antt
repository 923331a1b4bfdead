use Rattle.std.proofs.Common.{arith}
use Rattle.lr1_states.proofs.closure.Fed.{firsts_none, firsts_more, firsts_end}
use Rattle.lr1_states.proofs.closure.feed_firsts.Goals as goal

pub loop-production-init : goal.loop-production-init
loop-production-init c = λ T G. firsts_none T _

pub bounds-aheads-nonterminal : goal.bounds-aheads-nonterminal
bounds-aheads-nonterminal c = omega (arith, c.args.grammar.packed.owner _ c.loop-production-test.true, c.owner-nonterminal.ensures)

pub loop-production-preserved : goal.loop-production-preserved
loop-production-preserved c = λ T G. firsts_more T _ _ _ _ _ _ _ _ _ G c.loop-production-test.true c.owner-nonterminal.ensures (c.loop-production.invariant T G) (c.feed.ensures T G)

pub returns : goal.returns
returns c = λ T G. firsts_end T _ _ _ _ c.loop-production.auto.production-end c.loop-production-test.false (c.loop-production.invariant T G)
