use Rattle.std.proofs.Common.{◌≤◌, drop}
use Rattle.lr1_base.specs.repr.Packed.{productions_in}
use Rattle.enumerator.specs.example.Example.{suffixes}
use Rattle.enumerator.specs.example.Labels.{labels_in}
use Rattle.enumerator.specs.example.Written.{words_of}
use Rattle.lr1_base.proofs.words.Put.{Turn}
use Rattle.enumerator.proofs.example.Labels.write_suffixes.Given as goal

abbrev pub invariant-loop-label : goal.invariant-loop-label
invariant-loop-label l = Turn l.at (words_of (suffixes (productions_in l.self.grammar.words.now l.self.grammar.productions) (labels_in l.self.words.now))) l.initial.buffer l.place (words_of (suffixes (productions_in l.self.grammar.words.now l.self.grammar.productions) (drop l.label (labels_in l.self.words.now)))) l.buffer × (l.label ≤ l.label-end)
