use Rattle.std.proofs.Common.{◌*◌, ◌<◌, arith, get_or-take}
use Rattle.std.proofs.lemmas.List.{length-take-le}
use Rattle.lr1_base.specs.repr.Sizes.{index_limit}
use Rattle.lr1_states.proofs.closure.Fed.{items_none, items_more, items_end}
use Rattle.lr1_states.proofs.closure.feed_items.Goals as goal

pub loop-place-init : goal.loop-place-init
loop-place-init c = λ T G. items_none T _ _

pub loop-place-preserved : goal.loop-place-preserved
loop-place-preserved c = λ T G. let n = length-take-le (index_limit * c.args.grammar.productions) c.args.kernel.now (omega (arith, G.packed.few)) in
    let l : c.loop-place.place < index_limit * c.args.grammar.productions = omega (arith, n, c.loop-place-test.true) in
    items_more T _ _ _ _ _ _ _ _ _ G l (c.loop-place.invariant T G) (rw (c.at.ensures.0, c.at.ensures.1, get_or-take (index_limit * c.args.grammar.productions) c.args.kernel.now c.loop-place.place 0 l) at (c.feed.ensures T G))

pub returns : goal.returns
returns c = λ T G. let n = length-take-le (index_limit * c.args.grammar.productions) c.args.kernel.now (omega (arith, G.packed.few)) in
    items_end T _ _ _ _ _ (omega (arith, n, c.loop-place.auto.place-end)) (omega (arith, n, c.loop-place-test.false)) (c.loop-place.invariant T G)
