use Rattle.std.proofs.Common.{refl, ◌∙◌, arith}
use Rattle.lr1_base.specs.repr.Packed.{productions_in}
use Rattle.enumerator.proofs.example.Walk.{suffix_turn, suffix-done}
use Rattle.conflict_sides.proofs.outline.Prints.{part_on, words-none}
use Rattle.conflict_sides.proofs.outline.print_suffixes.Goals as goal

pub loop-label-init : goal.loop-label-init
loop-label-init c = (c.requires, refl)

pub print_list-mixed-requires : goal.print_list-mixed-requires
print_list-mixed-requires c = c.loop-label.invariant.0

pub loop-label-preserved : goal.loop-label-preserved
loop-label-preserved c =
    let ps = productions_in c.args.labels.grammar.words.now c.args.labels.grammar.productions in
    let ws = c.args.labels.words.now in
    let step = suffix_turn ps ws c.loop-label.label (omega (arith, c.count-label-end.ensures.0, c.loop-label-test.true)) _ c.suffix.ensures in
    (c.print_list-mixed.ensures.1, part_on c.loop-label.mixed _ _ c.suffix.ensures _ _ step _ c.print_list-mixed.ensures.0 ∙ c.loop-label.invariant.1)

pub returns : goal.returns
returns c =
    let ps = productions_in c.args.labels.grammar.words.now c.args.labels.grammar.productions in
    let ws = c.args.labels.words.now in
    (words-none c.loop-label.mixed _ (suffix-done ps ws c.loop-label.label (omega (arith, c.count-label-end.ensures.0, c.loop-label-test.false))) ∙ c.loop-label.invariant.1, c.loop-label.invariant.0)
