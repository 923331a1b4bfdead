use mathlib.Core.Path.{sym}
use lib.Seq.{length-take-le}
use Rattle.output_text.proofs.conflict_lines.Laws.{put-within}
use native.Mathlib.Omega.{arith}
use Rattle.explain.proofs.say_refused.Goals as goal

pub slice_bounds-out-end : goal.slice_bounds-out-end
slice_bounds-out-end g c = let w = put-within c.refused_line-n.ensures in let l = c.refused_line-n.ensures.long in omega (arith, w, l)

pub slice_bounds-write-end : goal.slice_bounds-write-end
slice_bounds-write-end g c = sym (length-take-le _ _ (put-within c.refused_line-n.ensures))
