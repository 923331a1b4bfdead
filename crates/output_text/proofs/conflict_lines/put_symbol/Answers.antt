use Rattle.output_text.proofs.conflict_lines.Laws.{put_as}
use Rattle.output_text.proofs.conflict_lines.Texts.{symbol-put}
use native.Mathlib.Omega.{arith}
use Rattle.output_text.proofs.conflict_lines.put_symbol.Goals as goal

pub returns : goal.returns
returns c = (symbol-put c.args.kind c.args.number c.put_after-next.ensures.0 (put_as c.put_after.ensures.0 (cc)), omega (arith, c.put_after-next.ensures.1, c.put_after.ensures.1))
