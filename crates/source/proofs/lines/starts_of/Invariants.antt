use Rattle.std.proofs.Common.{◌≡◌, ℕ, ◌+◌, ◌<◌, take, vec_len, get_or}
use Rattle.source.specs.Lines.{BeginsLine, newlines}
use Rattle.source.proofs.lines.starts_of.Given as goal

abbrev pub invariant-loop-i : goal.invariant-loop-i
invariant-loop-i l = record {
  begins : (k : ℕ) → k < vec_len l.starts → BeginsLine l.text k (get_or l.starts.items k 0);
  all : vec_len l.starts ≡ 1 + newlines (take l.i l.text);
}
