use Rattle.enumerator.proofs.example.LabelList.{item-production, item_index}
use Rattle.enumerator.proofs.example.Parts.{suffix_is}
use Rattle.enumerator.proofs.example.suffix_part.Goals as goal

pub suffix-requires : goal.suffix-requires
suffix-requires c = let e = c.label_item.ensures in record { within = (item-production c.args.grammar.words.now c.args.grammar.productions c.args.labels.now c.requires.labels_fit _ c.requires.label_in_bounds _ _ e.0 e.1); index_in_bounds = item_index c.args.grammar.words.now c.args.grammar.productions c.args.labels.now c.requires.labels_fit _ c.requires.label_in_bounds _ _ e.0 e.1 }

pub returns : goal.returns
returns c = let e = c.label_item.ensures in
    suffix_is c.args.grammar.words.now c.args.grammar.productions c.args.grammar.packed c.args.labels.now c.requires.labels_fit _ c.requires.label_in_bounds _ _ e.0 e.1 _ c.suffix.ensures.0 c.suffix.ensures.1
