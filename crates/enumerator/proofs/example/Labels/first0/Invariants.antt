use Rattle.std.proofs.Common.{◌≡◌, ◌+◌, ◌≤◌, true, drop}
use Rattle.lr1_base.specs.repr.Packed.{productions_in}
use Rattle.first.specs.First.{join_answers, first0}
use Rattle.enumerator.specs.example.Example.{ahead, asked_parts, asked_in, asked_of}
use Rattle.enumerator.specs.example.Labels.{labels_in}
use Rattle.enumerator.proofs.example.Asked.{whole}
use Rattle.enumerator.proofs.example.Labels.first0.Given as goal

abbrev pub invariant-loop-asked : goal.invariant-loop-asked
invariant-loop-asked l = (join_answers l.answer (first0 l.sets.terminals l.sets.map (whole (drop l.asked (asked_parts (productions_in l.self.grammar.words.now l.self.grammar.productions) (labels_in l.self.words.now))))) ≡ first0 l.sets.terminals l.sets.map (ahead (productions_in l.self.grammar.words.now l.self.grammar.productions) (labels_in l.self.words.now)))
    × (l.asked + asked_in l.sets.terminals l.sets.map (drop l.asked (asked_parts (productions_in l.self.grammar.words.now l.self.grammar.productions) (labels_in l.self.words.now))) ≡ asked_of l.sets.terminals l.sets.map (productions_in l.self.grammar.words.now l.self.grammar.productions) (labels_in l.self.words.now))
    × (l.answer.nullable ≡ true)
    × (l.asked ≤ l.count)
