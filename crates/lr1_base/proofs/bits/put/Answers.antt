use Rattle.lr1_base.proofs.bits.Laws.{bit_put_lem}
use mathlib.Core.Path.{refl}
use Rattle.lr1_base.proofs.bits.put.Goals as goal

pub returns : goal.returns
returns c = bit_put_lem c.args.words.now c.args.k _ refl
