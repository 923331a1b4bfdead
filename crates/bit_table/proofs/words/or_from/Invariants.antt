use Rattle.std.proofs.Common.{◌≡◌, ℕ, ◌+◌, ◌<◌, ◌≤◌, true, false}
use Rattle.bit_table.specs.Bits.{IsOn, Keeps, room}
use Rattle.bit_table.proofs.words.or_from.Given as goal

-- what is said of all words, of the first k
abbrev pub invariant-loop-k : goal.invariant-loop-k
invariant-loop-k l = record {
  keeps : Keeps l.initial.words l.words;
  adds : (k b : ℕ) → k < l.k → IsOn l.other (l.from + k) b → IsOn l.words (l.into + k) b;
  same : l.changed ≡ false → l.words ≡ l.initial.words;
  few : room l.words ≤ room l.initial.words;
  less : l.changed ≡ true → room l.words < room l.initial.words;
}
