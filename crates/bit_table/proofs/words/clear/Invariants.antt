use Rattle.std.proofs.Common.{◌≡◌, ℕ, ◌+◌, ◌<◌, get_or}
use Rattle.bit_table.specs.Bits.{Keeps}
use Rattle.bit_table.proofs.words.clear.Given as goal

abbrev pub invariant-loop-k : goal.invariant-loop-k
invariant-loop-k l = record {
  zero : (k : ℕ) → k < l.k → get_or l.words (l.at + k) 0 ≡ 0;
  only : Keeps l.words l.initial.words;
}
