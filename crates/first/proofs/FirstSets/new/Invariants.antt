use mathlib.Core.Path.{◌≡◌}
use Rattle.lr1_base.specs.repr.Packed.{productions_in}
use Rattle.first.proofs.Rounds.{Turn, left}
use Rattle.first.proofs.FirstSets.new.Given as goal

abbrev pub invariant-loop : goal.invariant-loop
invariant-loop l = Turn l.terminals (productions_in l.grammar.words.now l.grammar.productions) l.sets.map × (l.sets.terminals ≡ l.terminals)

abbrev pub decreases-loop : goal.decreases-loop
decreases-loop l = left l.sets.map
