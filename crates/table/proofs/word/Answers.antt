use mathlib.Core.Path.{refl}
use Prim.Native.Nat.{◌+◌, ◌*◌}
use Rattle.table.specs.Words.{word_at}
use native.Mathlib.Omega.{arith}
use Rattle.table.proofs.word.Goals as goal

pub overflow_cast-result : goal.overflow_cast-result
overflow_cast-result c = omega (arith, c.type_inv.table (c.args.r * 4 + c.args.k))

pub returns : goal.returns
unfolding word_at
returns c = (refl, (c.type_inv.table (c.args.r * 4 + c.args.k)).fits)
