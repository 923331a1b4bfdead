use Rattle.std.proofs.Common.{◌≡◌, ◌*◌, ◌≤◌, length}
use Rattle.lr1_base.specs.repr.Sizes.{index_limit, item_flags}
use Rattle.lr1_base.specs.repr.Meaning.{Table}
use Rattle.lr1_base.specs.repr.Packed.{productions_in}
use Rattle.trace.specs.Ends.{EndsTo}
use Rattle.trace.proofs.nullable_suffixes.suffix_ends.Given as goal

abbrev pub invariant-loop-production : goal.invariant-loop-production
invariant-loop-production l = (length l.ends ≡ item_flags) × (l.production ≤ l.grammar.productions)
    × ((T : Table) → T.productions ≡ productions_in l.grammar.words.now l.grammar.productions → T.terminals ≡ l.sets.terminals → EndsTo T l.ends (l.production * index_limit))
