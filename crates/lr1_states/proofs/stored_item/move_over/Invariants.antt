use Rattle.std.proofs.Common.{◌≡◌, ◌-◌, ◌*◌, length, option_map}
use Rattle.std.specs.Slice.Iter.{chunks_exact_rest, chunks_exact_size}
use Rattle.lr1_base.specs.repr.Sizes.{index_limit}
use Rattle.lr1_base.specs.repr.Symbols.{meant}
use Rattle.lr1_states.specs.stored_item.Stored.{entries}
use Rattle.lr1_states.proofs.stored_item.Stored.{all_entries, Turn}
use Rattle.lr1_states.proofs.stored_item.move_over.Given as goal

abbrev pub invariant-loop-item : goal.invariant-loop-item
invariant-loop-item l = (chunks_exact_size l.item-iterator ≡ 5) × (length l.kernel ≡ length l.initial.kernel) × Turn l.grammar.words.now (option_map meant l.symbol) (index_limit * l.grammar.productions) (entries l.words l.from (l.past - l.from)) l.kernel l.many (all_entries (chunks_exact_rest l.item-iterator))
