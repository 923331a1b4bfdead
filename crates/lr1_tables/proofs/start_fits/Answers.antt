use Rattle.std.proofs.Common.{◌∙◌, le-ltb}
use native.Mathlib.Omega.{arith}
use Rattle.lr1_tables.proofs.Ways.{start-inside, start_outside}
use Rattle.lr1_tables.proofs.start_fits.Goals as goal

pub returns-then-start-counts : goal.returns-then-start-counts
returns-then-start-counts c = start-inside _ _ (omega (arith, c.if-start-counts.true, c.counts.ensures.productions)) _ c.is_grammar_alone.ensures

pub returns-else-start-counts : goal.returns-else-start-counts
returns-else-start-counts c = le-ltb _ _ c.if-start-counts.false ∙ start_outside _ _ (omega (arith, c.if-start-counts.false, c.counts.ensures.productions))
