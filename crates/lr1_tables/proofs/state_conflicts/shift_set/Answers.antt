use Rattle.std.proofs.Common.{◌*◌, ◌<◌, arith, get_or-take}
use Rattle.std.proofs.lemmas.List.{length-take-le}
use Rattle.lr1_base.specs.repr.Sizes.{index_limit}
use Rattle.lr1_tables.proofs.state_conflicts.Shifts.{shifted_start, shifted-more, shifted_is}
use Rattle.lr1_tables.proofs.state_conflicts.shift_set.Goals as goal

pub loop-place-init : goal.loop-place-init
loop-place-init c = λ t. rw c.new-set.ensures.0 (shifted_start _ c.args.state.now t)

pub shift_one-set-requires : goal.shift_one-set-requires
shift_one-set-requires c = let n = length-take-le (index_limit * c.args.grammar.productions) c.args.state.now (omega (arith, c.args.grammar.packed.few)) in omega (arith, n, c.loop-place-test.true)

pub loop-place-preserved : goal.loop-place-preserved
loop-place-preserved c = let n = length-take-le (index_limit * c.args.grammar.productions) c.args.state.now (omega (arith, c.args.grammar.packed.few)) in
    let l : c.loop-place.place < index_limit * c.args.grammar.productions = omega (arith, n, c.loop-place-test.true) in
    shifted-more _ c.args.state.now c.loop-place.place _ _ _ (get_or-take (index_limit * c.args.grammar.productions) c.args.state.now c.loop-place.place 0 l) c.loop-place.invariant c.shift_one-set.ensures

pub returns : goal.returns
returns c = let n = length-take-le (index_limit * c.args.grammar.productions) c.args.state.now (omega (arith, c.args.grammar.packed.few)) in
    λ T e sets G. shifted_is T _ _ e sets G _ c.requires.flat c.loop-place.place _ (omega (arith, n, c.loop-place-test.false, c.loop-place.auto.place-end)) c.loop-place.invariant
