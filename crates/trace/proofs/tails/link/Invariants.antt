use Rattle.std.proofs.Common.{◌≤◌}
use Rattle.trace.specs.Tails.{Linked}
use Rattle.trace.proofs.tails.link.Given as goal

abbrev pub invariant-loop-k : goal.invariant-loop-k
invariant-loop-k l = Linked l.table.words.now l.records l.links l.count l.k × (l.k ≤ l.count) × (32 ≤ l.k)
