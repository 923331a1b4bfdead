use Rattle.std.proofs.Common.{refl, arith}
use Rattle.conflict_sides.specs.outline.Outline.{mix, symbol_code}
use Rattle.conflict_sides.proofs.outline.mix.Goals as goal

pub returns : goal.returns
unfolding mix symbol_code
returns c = (refl, omega arith)
