use Rattle.std.proofs.Common.{◌≡◌, ◌<◌, ◌≤◌, length, take}
use Rattle.lr1_base.specs.repr.Packed.{productions_in}
use Rattle.enumerator.specs.example.Example.{prefixes}
use Rattle.enumerator.specs.example.Labels.{labels_in}
use Rattle.enumerator.specs.example.Written.{words_of}
use Rattle.conflict_sides.specs.outline.Outline.{print_limit, print_words}
use Rattle.conflict_sides.proofs.outline.print_prefixes.Given as goal

abbrev pub invariant-loop-label : goal.invariant-loop-label
invariant-loop-label l = (l.label ≤ length (labels_in l.labels.words.now)) × (l.mixed < print_limit) × (print_words l.mixed (words_of (prefixes (productions_in l.labels.grammar.words.now l.labels.grammar.productions) (take l.label (labels_in l.labels.words.now)))) ≡ print_words l.print (words_of (prefixes (productions_in l.labels.grammar.words.now l.labels.grammar.productions) (labels_in l.labels.words.now))))
