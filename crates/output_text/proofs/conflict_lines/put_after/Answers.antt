use Rattle.output_text.proofs.conflict_lines.Laws.{put_then}
use native.Mathlib.Omega.{arith}
use Rattle.output_text.proofs.conflict_lines.put_after.Goals as goal

pub returns : goal.returns
returns c = let p = c.put-next.ensures.place in (put_then c.put-next.ensures c.put_number.ensures.0, omega (arith, p, c.put_number.ensures.1))
