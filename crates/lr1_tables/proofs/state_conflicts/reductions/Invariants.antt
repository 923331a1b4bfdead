use Rattle.std.proofs.Common.{◌≡◌, ℕ, List, length}
use Rattle.lr1_tables.specs.state_conflicts.Reductions.{ReducedAs}
use Rattle.lr1_states.specs.closure.Grammar.{OfTable}
use Rattle.lr1_base.specs.repr.Meaning.{Table}
use Rattle.lr1_base.specs.repr.Sizes.{production_limit}
use Rattle.lr1_tables.proofs.state_conflicts.reductions.Given as goal

abbrev pub invariant-loop-production : goal.invariant-loop-production
invariant-loop-production l = (length l.map ≡ production_limit) × ((T : Table) (e : ℕ) (sets : List ℕ) → OfTable T l.grammar.words.now l.grammar.productions e sets → ReducedAs T l.grammar.productions l.state l.map l.production)
