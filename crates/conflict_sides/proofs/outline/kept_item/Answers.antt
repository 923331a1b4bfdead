use Rattle.std.proofs.Common.{arith}
use Rattle.enumerator.proofs.example.LabelList.{some_label}
use Rattle.conflict_sides.proofs.outline.Kept.{kept_small, label_shift, label_one, label_cycle, next-inside, label_no_more, label_more}
use Rattle.conflict_sides.proofs.outline.kept_item.Goals.{then-count-lt2-via-then-count-lt2, then-count-lt2-via-else-count-lt2+then-nonterminal}
use Rattle.conflict_sides.proofs.outline.kept_item.Goals as goal

pub item-requires : goal.item-requires
item-requires c = some_label _ c.args.labels.fit

pub returns-then-shift : goal.returns-then-shift
returns-then-shift c = record { is = label_shift _ _ c.args.labels.grammar.packed _ c.args.labels.fit _ c.if-shift.true _ _ c.item.ensures.0 c.item.ensures.1; small = kept_small _ _ c.args.labels.grammar.packed _ c.args.labels.fit 0 (some_label _ c.args.labels.fit) _ _ c.item.ensures.0 c.item.ensures.1 }

pub returns-then-count-lt2 : goal.returns-then-count-lt2
returns-then-count-lt2 c = record {
  is = elim c.then-count-lt2.branch [
    | then-count-lt2-via-then-count-lt2 w ↦ label_one _ _ c.args.labels.grammar.packed _ c.args.labels.fit _ c.if-shift.false (omega (arith, c.count.ensures.0, w.if-count-lt2.true))
    | then-count-lt2-via-else-count-lt2+then-nonterminal w ↦ label_cycle _ _ c.args.labels.grammar.packed _ c.args.labels.fit _ c.if-shift.false (omega (arith, c.count.ensures.0, w.if-count-lt2.false)) _ _ w.nonterminal.ensures.0 w.nonterminal-else-count-lt2.ensures.0 w.if-nonterminal.true
  ];
  small = tt;
}

pub length-requires : goal.length-requires
length-requires c = next-inside _ _ c.args.labels.grammar.packed _ c.args.labels.fit _ c.if-shift.false (omega (arith, c.count.ensures.0, c.if-count-lt2.false)) _ _ c.nonterminal.ensures.0 c.nonterminal-else-count-lt2.ensures.0 c.if-nonterminal.false _ _ c.item-next.ensures.0 c.item-next.ensures.1

pub overflow_add-next : goal.overflow_add-next
overflow_add-next c = let l = kept_small _ _ c.args.labels.grammar.packed _ c.args.labels.fit 1 (omega (arith, c.count.ensures.0, c.if-count-lt2.false)) _ _ c.item-next.ensures.0 c.item-next.ensures.1 in omega (arith, l.1)

pub returns-then-length-next : goal.returns-then-length-next
returns-then-length-next c = record { is = label_no_more _ _ c.args.labels.grammar.packed _ c.args.labels.fit _ c.if-shift.false (omega (arith, c.count.ensures.0, c.if-count-lt2.false)) _ _ c.nonterminal.ensures.0 c.nonterminal-else-count-lt2.ensures.0 c.if-nonterminal.false _ _ c.item-next.ensures.0 c.item-next.ensures.1 _ c.length.ensures.0 c.if-length-next.true; small = tt }

pub returns : goal.returns
returns c = record { is = label_more _ _ c.args.labels.grammar.packed _ c.args.labels.fit _ c.if-shift.false (omega (arith, c.count.ensures.0, c.if-count-lt2.false)) _ _ c.nonterminal.ensures.0 c.nonterminal-else-count-lt2.ensures.0 c.if-nonterminal.false _ _ c.item-next.ensures.0 c.item-next.ensures.1 _ c.length.ensures.0 (omega (arith, c.if-length-next.false)); small = kept_small _ _ c.args.labels.grammar.packed _ c.args.labels.fit 1 (omega (arith, c.count.ensures.0, c.if-count-lt2.false)) _ _ c.item-next.ensures.0 c.item-next.ensures.1 }
