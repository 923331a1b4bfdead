use Rattle.std.proofs.Common.{◌≡◌, ◌+◌, length, drop}
use Rattle.lr1_base.specs.repr.Packed.{productions_in}
use Rattle.enumerator.specs.example.Example.{prefixes, suffixes}
use Rattle.enumerator.specs.example.Labels.{labels_in}
use Rattle.enumerator.proofs.example.Labels.totals.Given as goal

abbrev pub invariant-loop-label : goal.invariant-loop-label
invariant-loop-label l = (l.total.prefix + length (prefixes (productions_in l.self.grammar.words.now l.self.grammar.productions) (drop l.label (labels_in l.self.words.now))) ≡ length (prefixes (productions_in l.self.grammar.words.now l.self.grammar.productions) (labels_in l.self.words.now)))
    × (l.total.suffix + length (suffixes (productions_in l.self.grammar.words.now l.self.grammar.productions) (drop l.label (labels_in l.self.words.now))) ≡ length (suffixes (productions_in l.self.grammar.words.now l.self.grammar.productions) (labels_in l.self.words.now)))
