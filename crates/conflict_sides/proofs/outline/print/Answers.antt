use Rattle.std.proofs.Common.{arith}
use Rattle.lr1_base.specs.repr.Packed.{productions_in}
use Rattle.enumerator.specs.example.Labels.{labels_in}
use Rattle.enumerator.proofs.example.Walk.{around_few}
use Rattle.conflict_sides.proofs.outline.Prints.{print_whole}
use Rattle.conflict_sides.proofs.outline.print.Goals as goal

pub print_prefixes-before-requires : goal.print_prefixes-before-requires
print_prefixes-before-requires c = let few = around_few c.args.labels.grammar.words.now c.args.labels.grammar.productions c.args.labels.grammar.packed c.args.labels.words.now c.args.labels.fit in omega (arith, few, c.prefix_total-cursor.ensures)

pub print_middle-passed-requires : goal.print_middle-passed-requires
print_middle-passed-requires c = c.print_prefixes-before.ensures.1

pub print_suffixes-requires : goal.print_suffixes-requires
print_suffixes-requires c = c.print_middle-passed.ensures.1

pub returns : goal.returns
returns c = let few = around_few c.args.labels.grammar.words.now c.args.labels.grammar.productions c.args.labels.grammar.packed c.args.labels.words.now c.args.labels.fit in
    print_whole (productions_in c.args.labels.grammar.words.now c.args.labels.grammar.productions) (labels_in c.args.labels.words.now) _ _ _ _ c.prefix_total-cursor.ensures (omega (arith, few, c.prefix_total-cursor.ensures)) c.print_prefixes-before.ensures.0 c.print_middle-passed.ensures.0 c.print_suffixes.ensures.0
