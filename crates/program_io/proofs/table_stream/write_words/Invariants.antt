use mathlib.Core.Path.{◌≡◌}
use Rattle.std.specs.Slice.Iter.{chunks_size}
use Rattle.program_io.proofs.table_stream.write_words.Given as goal

abbrev pub invariant-loop-piece : goal.invariant-loop-piece
invariant-loop-piece g l = chunks_size l.piece-iterator ≡ 32768
