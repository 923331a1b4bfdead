use Rattle.output_text.proofs.conflict_lines.Laws.{put_as}
use Rattle.output_text.proofs.conflict_lines.Texts.{class_put}
use native.Mathlib.Omega.{arith}
use Rattle.output_text.proofs.conflict_lines.put_class.Goals as goal

pub returns : goal.returns
returns c = let p = c.put.ensures.place in (class_put c.args.number c.args.found.action_trials c.args.found.reduce_trials _ c.number.ensures c.put_number-first.ensures.0 c.put_after-second.ensures.0 c.put_after-third.ensures.0 c.put_after-fourth.ensures.0 c.put_own-last.ensures.0 (put_as c.put.ensures (cc)), omega (arith, p, c.put_number-first.ensures.1, c.put_after-second.ensures.1, c.put_after-third.ensures.1, c.put_after-fourth.ensures.1, c.put_own-last.ensures.1))
