use Rattle.std.proofs.Common.{◌∙◌, arith}
use Rattle.enumerator.proofs.example.LabelList.{three_words, label_production, label_index}
use Rattle.enumerator.proofs.example.label_item.Goals as goal

pub overflow_mul-label : goal.overflow_mul-label
overflow_mul-label c = let t = three_words c.args.labels.now in omega arith

pub overflow_add-label : goal.overflow_add-label
overflow_add-label c = let t = three_words c.args.labels.now in omega arith

pub word-requires : goal.word-requires
word-requires c = let t = three_words c.args.labels.now in omega arith

pub overflow_mul-label-2 : goal.overflow_mul-label-2
overflow_mul-label-2 c = let t = three_words c.args.labels.now in omega arith

pub overflow_add-label-2 : goal.overflow_add-label-2
overflow_add-label-2 c = let t = three_words c.args.labels.now in omega arith

pub word-requires-2 : goal.word-requires-2
word-requires-2 c = let t = three_words c.args.labels.now in omega arith

pub returns : goal.returns
returns c = (c.word.ensures.0 ∙ label_production _ _ c.requires, c.word-2.ensures.0 ∙ label_index _ _ c.requires)
