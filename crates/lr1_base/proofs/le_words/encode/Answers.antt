use Rattle.std.proofs.Common.{arith, rules}
use Rattle.lr1_base.proofs.le_words.Laws.{spread_end, spread_again}
use Rattle.lr1_base.proofs.le_words.encode.Goals as goal

pub loop-i-preserved : goal.loop-i-preserved
loop-i-preserved c = spread_again c.loop-i.invariant _ _ (omega arith) (let h = c.loop-i.invariant.long in omega arith) (search rules) (search rules)

pub returns : goal.returns
returns c = spread_end c.loop-i.invariant (omega arith)
