use mathlib.Core.Path.{◌≡◌}
use mathlib.Core.Bool.{not}
use Rattle.lr1_base.specs.words.Same.{same_words}
use Rattle.lr1_base.specs.repr.Packed.{productions_in}
use Rattle.first.specs.First.{round}
use Rattle.first.proofs.FirstSets.grow.Given as goal

abbrev pub invariant-loop-production : goal.invariant-loop-production
invariant-loop-production l = (l.self.map ≡ round l.initial.self.terminals l.initial.self.map (productions_in l.grammar.words.now l.production)) × (l.changed ≡ not (same_words l.self.map l.initial.self.map)) × (l.self.terminals ≡ l.initial.self.terminals)
