use native.Mathlib.Omega.{arith}
use Rattle.output_text.proofs.table_text.Texts.{named_put}
use Rattle.output_text.proofs.table_text.put_named.Goals as goal

pub returns : goal.returns
returns c = (named_put _ _ c.put_text-next.ensures c.put_after.ensures.0, omega (arith, c.put_text-next.ensures.place, c.put_after.ensures.1, c.requires.0))
