use Rattle.std.proofs.Common.{take}
use Rattle.lr1_base.specs.repr.Packed.{productions_in}
use Rattle.enumerator.specs.example.Example.{prefixes}
use Rattle.enumerator.specs.example.Labels.{labels_in}
use Rattle.enumerator.specs.example.Written.{words_of}
use Rattle.lr1_base.proofs.words.Put.{Turn}
use Rattle.enumerator.proofs.example.Labels.write_prefixes.Given as goal

abbrev pub invariant-loop-label : goal.invariant-loop-label
invariant-loop-label l = Turn l.at (words_of (prefixes (productions_in l.self.grammar.words.now l.self.grammar.productions) (labels_in l.self.words.now))) l.initial.buffer l.place (words_of (prefixes (productions_in l.self.grammar.words.now l.self.grammar.productions) (take l.label (labels_in l.self.words.now)))) l.buffer
