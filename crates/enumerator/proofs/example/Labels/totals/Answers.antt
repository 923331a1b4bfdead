use Rattle.std.proofs.Common.{arith}
use Rattle.lr1_base.specs.repr.Packed.{productions_in}
use Rattle.enumerator.proofs.example.Walk.{none-counted, around_few, prefix-none, prefix-step, suffix-none, suffix-step}
use Rattle.enumerator.proofs.example.Labels.totals.Goals as goal

pub loop-label-init : goal.loop-label-init
loop-label-init c = let z = none-counted _ _ _ c.new-total.ensures.suffix_value in (omega (arith, z.0), omega (arith, z.1))

pub overflow_add-total : goal.overflow_add-total
overflow_add-total c = let ps = productions_in c.args.self.grammar.words.now c.args.self.grammar.productions in
    let ws = c.args.self.words.now in
    let s = prefix-step ps ws c.loop-label.label (omega (arith, c.loop-label-test.true, c.count-label-end.ensures.0)) in
    let few = around_few c.args.self.grammar.words.now c.args.self.grammar.productions c.args.self.grammar.packed ws c.args.self.fit in
    omega (arith, s, few, c.loop-label.invariant.0, c.prefix_length.ensures)

pub overflow_add-total-in-loop-label : goal.overflow_add-total-in-loop-label
overflow_add-total-in-loop-label c = let ps = productions_in c.args.self.grammar.words.now c.args.self.grammar.productions in
    let ws = c.args.self.words.now in
    let s = suffix-step ps ws c.loop-label.label (omega (arith, c.loop-label-test.true, c.count-label-end.ensures.0)) in
    let few = around_few c.args.self.grammar.words.now c.args.self.grammar.productions c.args.self.grammar.packed ws c.args.self.fit in
    omega (arith, s, few, c.loop-label.invariant.1, c.suffix_length.ensures)

pub loop-label-preserved : goal.loop-label-preserved
loop-label-preserved c = let ps = productions_in c.args.self.grammar.words.now c.args.self.grammar.productions in
    let ws = c.args.self.words.now in
    let l = c.loop-label.label in
    let s = prefix-step ps ws l (omega (arith, c.loop-label-test.true, c.count-label-end.ensures.0)) in
    let t = suffix-step ps ws l (omega (arith, c.loop-label-test.true, c.count-label-end.ensures.0)) in
    (omega (arith, s, c.loop-label.invariant.0, c.prefix_length.ensures), omega (arith, t, c.loop-label.invariant.1, c.suffix_length.ensures))

pub returns : goal.returns
returns c = let ps = productions_in c.args.self.grammar.words.now c.args.self.grammar.productions in
    let ws = c.args.self.words.now in
    let y = prefix-none ps ws c.loop-label.label (omega (arith, c.count-label-end.ensures.0, c.loop-label-test.false)) in
    let z = suffix-none ps ws c.loop-label.label (omega (arith, c.count-label-end.ensures.0, c.loop-label-test.false)) in
    (omega (arith, y, c.loop-label.invariant.0), omega (arith, z, c.loop-label.invariant.1))
