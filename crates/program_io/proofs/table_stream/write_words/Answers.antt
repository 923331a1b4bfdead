use Rattle.std.proofs.Common.{arith, ℕ, length-take}
use Rattle.program_io.proofs.table_stream.write_words.Goals as goal

pub slice_bounds-write-end-in-loop-piece : goal.slice_bounds-write-end-in-loop-piece
slice_bounds-write-end-in-loop-piece g c = let s = c.in-Some.ensures.steps in omega (arith, length-take {A = ℕ})
