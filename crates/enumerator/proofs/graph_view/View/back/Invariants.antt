use mathlib.Core.Path.{◌≡◌}
use lib.ListN.{length}
use Rattle.enumerator.specs.graph_view.Steps.{CountedWalk}
use Rattle.enumerator.proofs.graph_view.Stepping.{Turn}
use Rattle.enumerator.proofs.graph_view.View.back.Given as goal

abbrev pub invariant-loop-depth : goal.invariant-loop-depth
invariant-loop-depth l = (length l.words ≡ length l.initial.words) × (length l.counts ≡ length l.initial.counts) × Turn l.self.older.now l.initial.words l.words l.depth × CountedWalk l.self.sources.bytes.now l.words l.counts
