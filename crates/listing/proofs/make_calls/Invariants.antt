use mathlib.Core.Path.{◌≡◌}
use mathlib.Core.List.{[]}
use Prim.Native.Nat.{◌+◌, ◌≤◌}
use lib.ListN.{length, take, drop}
use Rattle.std.specs.Slice.Iter.{chunks_exact_rest, chunks_exact_size}
use Rattle.listing.specs.CallList.{output_words, ended_of}
use Rattle.listing.proofs.make_calls.Given as goal

abbrev pub invariant-loop-numbers : goal.invariant-loop-numbers
invariant-loop-numbers l = let left = chunks_exact_rest l.numbers-iterator in (chunks_exact_size l.numbers-iterator ≡ 3) × (l.from + output_words left ≤ length l.initial.output) × (length l.output ≡ length l.initial.output) × (length l.scratch ≡ length l.initial.scratch) × (ended_of l.table l.graph left l.listing l.scratch (take l.from l.output) (drop l.from l.output) ≡ ended_of l.table l.graph l.calls l.initial.listing l.initial.scratch [] l.initial.output)
