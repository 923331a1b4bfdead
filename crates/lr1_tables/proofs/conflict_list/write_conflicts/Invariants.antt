use Rattle.lr1_tables.proofs.conflict_list.Laws.{rest}
use Rattle.lr1_tables.specs.sizes.Complete.{Collection}
use Rattle.lr1_base.proofs.words.Put.{Turn}
use Rattle.lr1_states.specs.canonical.Built.{conflict_words}
use lib.ListN.{length}
use Prim.Native.Nat.{◌≤◌}
use mathlib.Core.Path.{◌≡◌}
use Rattle.lr1_tables.proofs.conflict_list.write_conflicts.Given as goal

abbrev pub invariant-loop-k : goal.invariant-loop-k
invariant-loop-k l = (length l.list ≡ length l.initial.list) × ((s : Collection l.kept) → length (conflict_words s.T s.Rs) ≤ length l.initial.list → Turn 0 (conflict_words s.T s.Rs) l.initial.list l.place (rest s.T s.Rs l.k l.kept.begins.now.states) l.list)
