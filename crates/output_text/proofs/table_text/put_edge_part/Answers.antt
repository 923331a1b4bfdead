use native.Mathlib.Omega.{arith}
use Rattle.output_text.proofs.table_text.Texts.{edge_put}
use Rattle.output_text.proofs.table_text.put_edge_part.Goals as goal

pub returns : goal.returns
returns c = (edge_put _ _ _ c.put_by-next.ensures.0 c.put_named.ensures.0, omega (arith, c.put_by-next.ensures.1, c.put_named.ensures.1))
