use Rattle.std.proofs.Common.{◌<◌, ◌≤◌, length, sym, refl, ◌∙◌, arith}
use borrow.Author.Tests.{not-true, not-false}
use Rattle.lr1_base.specs.repr.Packed.{productions_in}
use Rattle.first.proofs.Answers.{join-stop}
use Rattle.enumerator.specs.example.Example.{asked_parts}
use Rattle.enumerator.specs.example.Labels.{labels_in}
use Rattle.enumerator.proofs.example.Asked.{parts-length, asked-start, asked-more, asked_end, number-start, number_more, number-stop, number_end}
use Rattle.enumerator.proofs.example.Labels.first0.Goals as goal

pub loop-asked-init : goal.loop-asked-init
loop-asked-init c = let e = c.args.sets.now.terminals in
    let sets = c.args.sets.now.map in
    let ps = productions_in c.args.self.grammar.words.now c.args.self.grammar.productions in
    let ls = labels_in c.args.self.words.now in
    (asked-start e sets ps ls _ c.new.ensures.0, number-start e sets ps ls, refl, omega arith)

pub returns-then-not-answer : goal.returns-then-not-answer
returns-then-not-answer c = let e = c.args.sets.now.terminals in
    let sets = c.args.sets.now.map in
    let ps = productions_in c.args.self.grammar.words.now c.args.self.grammar.productions in
    let ls = labels_in c.args.self.words.now in
    let L = c.loop-asked in
    let h : L.asked < length (asked_parts ps ls) = omega (arith, c.count-count.ensures.0, c.loop-asked-test.true, parts-length ps ls) in
    let parts = asked_parts ps ls in
    let more = asked-more e sets parts L.asked h _ _ _ c.label_first0-next.ensures c.join-answer.ensures in
    let n = not-true _ c.if-not-answer.true in
    (sym (join-stop _ _ n) ∙ more ∙ L.invariant.0, number-stop e sets parts L.asked h _ _ _ c.label_first0-next.ensures c.join-answer.ensures L.invariant.2 n ∙ L.invariant.1)

pub loop-asked-preserved : goal.loop-asked-preserved
loop-asked-preserved c = let e = c.args.sets.now.terminals in
    let sets = c.args.sets.now.map in
    let ps = productions_in c.args.self.grammar.words.now c.args.self.grammar.productions in
    let ls = labels_in c.args.self.words.now in
    let L = c.loop-asked in
    let h : L.asked < length (asked_parts ps ls) = omega (arith, c.count-count.ensures.0, c.loop-asked-test.true, parts-length ps ls) in
    let parts = asked_parts ps ls in
    let more = asked-more e sets parts L.asked h _ _ _ c.label_first0-next.ensures c.join-answer.ensures in
    let y = not-false _ c.if-not-answer.false in (
      more ∙ L.invariant.0,
      number_more e sets parts L.asked h _ _ _ c.label_first0-next.ensures c.join-answer.ensures L.invariant.2 y ∙ L.invariant.1,
      y,
      omega (arith, c.loop-asked-test.true),
    )

pub returns : goal.returns
returns c = let e = c.args.sets.now.terminals in
    let sets = c.args.sets.now.map in
    let ps = productions_in c.args.self.grammar.words.now c.args.self.grammar.productions in
    let ls = labels_in c.args.self.words.now in
    let L = c.loop-asked in
    let parts = asked_parts ps ls in
    let h : length parts ≤ L.asked = omega (arith, c.count-count.ensures.0, c.loop-asked-test.false, parts-length ps ls) in
    (asked_end e sets parts L.asked h _ ∙ L.invariant.0, omega (arith, number_end e sets parts L.asked h, L.invariant, c.loop-asked-test.false))
