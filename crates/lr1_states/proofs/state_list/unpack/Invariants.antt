use Rattle.std.specs.Prelude.{◌≡◌, ◌-◌}
use Rattle.std.specs.Slice.Iter.{chunks_exact_rest, chunks_exact_size}
use Rattle.lr1_states.specs.stored_item.Stored.{entries}
use Rattle.lr1_states.proofs.stored_item.Stored.{all_entries}
use Rattle.lr1_states.proofs.state_list.Kept.{Unpacking}
use Rattle.lr1_states.proofs.state_list.unpack.Given as goal

abbrev pub invariant-loop-stored : goal.invariant-loop-stored
invariant-loop-stored l = (chunks_exact_size l.stored-iterator ≡ 5) × Unpacking l.map (entries l.words l.from (l.past - l.from)) (all_entries (chunks_exact_rest l.stored-iterator))
