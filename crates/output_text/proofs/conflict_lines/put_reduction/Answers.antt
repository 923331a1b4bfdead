use Rattle.output_text.proofs.conflict_lines.Texts.{reduction_put}
use native.Mathlib.Omega.{arith}
use Rattle.output_text.proofs.conflict_lines.put_reduction.Goals as goal

pub returns : goal.returns
returns c = (reduction_put c.args.start c.args.end c.args.nonterminal c.put_after-middle.ensures.0 c.put_after-next.ensures.0 c.put_after.ensures.0, omega (arith, c.put_after-middle.ensures.1, c.put_after-next.ensures.1, c.put_after.ensures.1))
