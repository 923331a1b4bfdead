use Rattle.lr1_base.proofs.bits.Laws.{bit_tested}
use Rattle.lr1_base.proofs.bits.is_set.Goals as goal

pub returns : goal.returns
returns c = bit_tested c.args.words.now c.args.k
