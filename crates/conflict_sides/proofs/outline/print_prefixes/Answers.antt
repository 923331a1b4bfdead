use Rattle.std.proofs.Common.{◌-◌, ◌∙◌, arith}
use Rattle.lr1_base.specs.repr.Packed.{productions_in}
use Rattle.enumerator.proofs.example.Walk.{prefix_turn, prefix-done}
use Rattle.conflict_sides.proofs.outline.Prints.{part_on, words-none}
use Rattle.conflict_sides.proofs.outline.print_prefixes.Goals as goal

pub loop-label-preserved : goal.loop-label-preserved
loop-label-preserved c =
    let ps = productions_in c.args.labels.grammar.words.now c.args.labels.grammar.productions in
    let ws = c.args.labels.words.now in
    let label = c.loop-label.label in
    let step = prefix_turn ps ws (label - 1) label (label - 1) (omega (arith, c.loop-label-test.true)) (omega arith) c.loop-label.invariant.0 _ c.prefix.ensures in
    (omega (arith, c.loop-label.invariant.0), c.print_list-mixed.ensures.1, part_on c.loop-label.mixed _ _ c.prefix.ensures _ _ step _ c.print_list-mixed.ensures.0 ∙ c.loop-label.invariant.2)

pub returns : goal.returns
returns c =
    let ps = productions_in c.args.labels.grammar.words.now c.args.labels.grammar.productions in
    let ws = c.args.labels.words.now in
    (words-none c.loop-label.mixed _ (prefix-done ps ws c.loop-label.label (omega (arith, c.loop-label-test.false))) ∙ c.loop-label.invariant.2, c.loop-label.invariant.1)
