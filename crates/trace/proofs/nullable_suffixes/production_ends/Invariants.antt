use Rattle.std.proofs.Common.{◌≡◌, ◌+◌, ◌*◌, length}
use Rattle.lr1_base.specs.repr.Sizes.{index_limit, item_flags}
use Rattle.lr1_base.specs.repr.Meaning.{Table}
use Rattle.lr1_base.specs.repr.Packed.{productions_in}
use Rattle.trace.specs.Ends.{EndsTo}
use Rattle.trace.proofs.nullable_suffixes.production_ends.Given as goal

abbrev pub invariant-loop-index : goal.invariant-loop-index
invariant-loop-index l = (length l.ends ≡ item_flags)
    × ((T : Table) → T.productions ≡ productions_in l.grammar.words.now l.grammar.productions → T.terminals ≡ l.sets.terminals → EndsTo T l.initial.ends (l.production * index_limit) → EndsTo T l.ends (l.production * index_limit + l.index))
