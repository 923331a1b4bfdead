use Rattle.lr1_base.specs.repr.Packed.{productions_in}
use Rattle.enumerator.specs.example.Labels.{labels_in}
use Rattle.enumerator.proofs.filter.Handing.{meets_is}
use Rattle.enumerator.proofs.filter.Filter.meets.Goals as goal

pub returns : goal.returns
returns c = λ es T p rest w.
    let L = c.read_labels-labels.ensures in
    meets_is c.args.self.sets.now.terminals c.args.self.sets.now.map (productions_in c.args.self.grammar.words.now c.args.self.grammar.productions) es c.args.set.0 c.first0-expected.result.answer c.meets.result
    (labels_in c.read_labels-labels.result.words.now) p (rw (L.grammar.0, L.grammar.1) at c.first0-expected.ensures.0) c.meets.ensures (L.labels _ es T p rest w)
