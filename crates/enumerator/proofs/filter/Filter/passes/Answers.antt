use Rattle.lr1_base.specs.repr.Packed.{productions_in}
use Rattle.enumerator.proofs.filter.Handing.{passes-any, passes-set}
use Rattle.enumerator.proofs.filter.Filter.passes.Goals as goal

pub returns-in-None : goal.returns-in-None
returns-in-None c = λ es T p rest w.
    passes-any c.args.self.sets.now.terminals c.args.self.sets.now.map (productions_in c.args.self.grammar.words.now c.args.self.grammar.productions) es c.args.self.lookahead c.in-None.is p

pub returns-in-Some : goal.returns-in-Some
returns-in-Some c = λ es T p rest w.
    passes-set c.args.self.sets.now.terminals c.args.self.sets.now.map (productions_in c.args.self.grammar.words.now c.args.self.grammar.productions) es c.args.self.lookahead c.in-Some.set c.in-Some.is c.meets.result p (c.meets.ensures es T p rest w)
