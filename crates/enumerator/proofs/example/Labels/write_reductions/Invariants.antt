use Rattle.std.proofs.Common.{◌≡◌, ◌+◌, ◌≤◌, length, drop}
use Rattle.lr1_base.specs.repr.Packed.{productions_in}
use Rattle.enumerator.specs.example.Example.{prefixes, suffixes}
use Rattle.enumerator.specs.example.Labels.{labels_in}
use Rattle.enumerator.specs.example.Written.{around_words}
use Rattle.lr1_base.proofs.words.Put.{Turn}
use Rattle.enumerator.proofs.example.Labels.write_reductions.Given as goal

abbrev pub invariant-loop-label : goal.invariant-loop-label
invariant-loop-label l = Turn l.at (around_words (productions_in l.self.grammar.words.now l.self.grammar.productions) l.places (labels_in l.self.words.now)) l.initial.buffer l.place (around_words (productions_in l.self.grammar.words.now l.self.grammar.productions) l.places (drop l.label (labels_in l.self.words.now))) l.buffer × (l.start ≡ length (prefixes (productions_in l.self.grammar.words.now l.self.grammar.productions) (drop l.label (labels_in l.self.words.now)))) × (l.end + length (suffixes (productions_in l.self.grammar.words.now l.self.grammar.productions) (drop l.label (labels_in l.self.words.now))) ≡ l.places) × (l.label ≤ l.label-end)
