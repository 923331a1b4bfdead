use Rattle.std.proofs.Common.{ap, ◌∙◌}
use Rattle.lr1_base.specs.repr.Packed.{productions_in}
use Rattle.lr1_base.specs.words.Lent.{in_front}
use Rattle.enumerator.specs.example.Example.{example_words}
use Rattle.enumerator.specs.example.Labels.{labels_in}
use Rattle.conflict_sides.specs.conflict.Judge.{Example}
use Rattle.conflict_sides.proofs.outline.Labelled.{labels_read}
use Rattle.conflict_sides.proofs.outline.write_kept.Goals as goal

pub write_example-requires : goal.write_example-requires
write_example-requires c = c.requires.example_room_in_bounds.1

pub invariant_of-labels : goal.invariant_of-labels
invariant_of-labels c = record { fit = rw (labels_read c.args.kept.now c.args.k c.word.result c.word.ensures.0) c.requires.example_room_in_bounds.0.1.fit }

pub returns : goal.returns
returns c = λ x K. c.write_example.ensures ∙ ap (λ (y : Example). in_front (example_words (productions_in c.args.grammar.words.now c.args.grammar.productions) y) c.args.buffer.now) (ap labels_in (labels_read c.args.kept.now c.args.k c.word.result c.word.ensures.0) ∙ K.same)
