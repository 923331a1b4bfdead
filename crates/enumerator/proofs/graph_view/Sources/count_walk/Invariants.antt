use Prim.Native.Nat.{◌-◌}
use mathlib.Core.Path.{◌≡◌}
use lib.ListN.{length}
use Rattle.enumerator.proofs.graph_view.Counting.{Joined}
use Rattle.enumerator.proofs.graph_view.Sources.count_walk.Given as goal

abbrev pub invariant-loop-at : goal.invariant-loop-at
invariant-loop-at l = (length l.counts ≡ length l.initial.counts) × Joined l.self.bytes.now l.words l.at-end l.counts (l.at - 1)
