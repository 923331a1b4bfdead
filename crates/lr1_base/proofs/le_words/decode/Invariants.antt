use mathlib.Core.Path.{◌≡◌}
use Rattle.std.specs.Iterator.Adapters.{enumerate_source, enumerate_count}
use Rattle.std.specs.Slice.Iter.{chunks_exact_rest, chunks_exact_size}
use Rattle.lr1_base.proofs.le_words.Laws.{Turn}
use Rattle.lr1_base.proofs.le_words.decode.Given as goal

abbrev pub invariant-loop-i : goal.invariant-loop-i
invariant-loop-i l =
    (chunks_exact_size (enumerate_source l.i-iterator) ≡ 2)
    × Turn l.bytes l.initial.out l.out (enumerate_count l.i-iterator) (chunks_exact_rest (enumerate_source l.i-iterator))
