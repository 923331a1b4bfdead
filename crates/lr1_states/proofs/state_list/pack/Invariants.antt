use Rattle.std.specs.Prelude.{◌≡◌, ◌+◌, ◌-◌, length}
use Rattle.lr1_states.specs.state_list.Kept.{put_all}
use Rattle.lr1_states.specs.stored_item.Stored.{held, packed}
use Rattle.lr1_base.specs.repr.Lists.{up_from}
use Rattle.lr1_states.proofs.state_list.pack.Given as goal

abbrev pub invariant-loop-place : goal.invariant-loop-place
invariant-loop-place l = (length l.words ≡ length l.initial.words) × (l.many + length (held l.state (up_from l.place (length l.state - l.place))) ≡ l.begin + length (packed l.state)) × (put_all l.words l.many (held l.state (up_from l.place (length l.state - l.place))) ≡ put_all l.initial.words l.begin (packed l.state))
