use mathlib.Core.Path.{◌≡◌}
use Prim.Native.Nat.{◌+◌}
use Rattle.std.specs.Slice.Iter.{chunks_exact_rest, chunks_exact_size}
use Rattle.listing.specs.CallList.{output_words}
use Rattle.listing.proofs.check_calls.Given as goal

abbrev pub invariant-loop-numbers : goal.invariant-loop-numbers
invariant-loop-numbers l = (chunks_exact_size l.numbers-iterator ≡ 3) × (l.words + output_words (chunks_exact_rest l.numbers-iterator) ≡ l.left + output_words l.calls)
