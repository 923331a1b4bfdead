use Prim.Native.Nat.{ℕ}
use Rattle.state_graph.specs.Hits.{Hits}
use Rattle.state_graph.proofs.Hits.{Finding}
use Rattle.state_graph.proofs.Step.states_over.Given as goal

abbrev pub invariant-loop-s : goal.invariant-loop-s
invariant-loop-s live = (l h : ℕ) → Hits live.self.table.words.now live.self.kind live.self.number l h live.hits → Finding live.self.table.words.now live.self.kind live.self.number l h live.found.low live.found.high live.s
