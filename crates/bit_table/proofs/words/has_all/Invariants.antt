use Rattle.std.proofs.Common.{ℕ, ◌+◌, ◌<◌}
use Rattle.bit_table.specs.Bits.{IsOn}
use Rattle.bit_table.proofs.words.has_all.Given as goal

abbrev pub invariant-loop-k : goal.invariant-loop-k
invariant-loop-k l = (k b : ℕ) → k < l.k → IsOn l.other (l.from + k) b → IsOn l.words (l.at + k) b
