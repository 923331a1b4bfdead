use mathlib.Core.Path.{◌≡◌}
use mathlib.Core.List.{◌++◌}
use Prim.Native.Nat.{◌*◌, ◌≤◌}
use lib.ListN.{length, drop}
use Rattle.lr1_base.specs.repr.Sizes.{entry_room}
use Rattle.lr1_base.specs.repr.Lists.{joined}
use Rattle.conflicts.specs.class_words.Entries.{entries_in, entry_words}
use Rattle.conflicts.proofs.class_words.copy_entries.Given as goal

abbrev pub invariant-loop-k : goal.invariant-loop-k
invariant-loop-k l = (l.k ≤ l.count) × (length l.to ≡ length l.initial.to) × (l.to ≡ joined entry_words (entries_in l.from l.k) ++ drop (entry_room * l.k) l.initial.to)
