use Rattle.std.proofs.Common.{◌≡◌, ◌<◌, drop}
use Rattle.lr1_base.specs.repr.Packed.{productions_in}
use Rattle.enumerator.specs.example.Example.{suffixes}
use Rattle.enumerator.specs.example.Labels.{labels_in}
use Rattle.enumerator.specs.example.Written.{words_of}
use Rattle.conflict_sides.specs.outline.Outline.{print_limit, print_words}
use Rattle.conflict_sides.proofs.outline.print_suffixes.Given as goal

abbrev pub invariant-loop-label : goal.invariant-loop-label
invariant-loop-label l = (l.mixed < print_limit) × (print_words l.mixed (words_of (suffixes (productions_in l.labels.grammar.words.now l.labels.grammar.productions) (drop l.label (labels_in l.labels.words.now)))) ≡ print_words l.print (words_of (suffixes (productions_in l.labels.grammar.words.now l.labels.grammar.productions) (labels_in l.labels.words.now))))
