use mathlib.Core.Path.{◌≡◌}
use lib.ListN.{length}
use Prim.Native.Nat.{◌-◌}
use Rattle.lr1_states.proofs.collection.Laws.{Round}
use Rattle.lr1_states.specs.goto.Search.{Search}
use Rattle.lr1_states.proofs.collection.take_states.Given as goal

abbrev pub invariant-loop-k : goal.invariant-loop-k
invariant-loop-k l = (length l.kernel ≡ length l.initial.kernel) × ((s : Search l.source l.initial.words l.initial.begins.items l.initial.begins.states) → Round s.T s.start s.room s.Rs l.words l.begins.items l.edges.list.words l.edges.rows l.k l.edges.list.many l.begins.states)

abbrev pub decreases-loop-k : goal.decreases-loop-k
decreases-loop-k l = 128 - l.k
