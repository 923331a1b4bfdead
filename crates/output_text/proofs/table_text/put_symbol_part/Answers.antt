use native.Mathlib.Omega.{arith}
use Rattle.output_text.proofs.table_text.Texts.{symbol-put}
use Rattle.output_text.proofs.table_text.put_symbol_part.Goals as goal

pub returns : goal.returns
returns c = (symbol-put _ _ c.put_text-next.ensures c.put_symbol.ensures.0, omega (arith, c.put_text-next.ensures.place, c.put_symbol.ensures.1))
