use mathlib.Core.Path.{refl, ap}
use Rattle.std.proofs.Common.{arith, length, length-append}
use Rattle.lr1_base.proofs.le_words.Laws.{turn_end, turn_again}
use Rattle.lr1_base.proofs.le_words.decode.Goals as goal

pub loop-i-preserved : goal.loop-i-preserved
loop-i-preserved c =
    let s = c.in-Some.ensures.steps in
    let T = c.loop-i.invariant.1 in
    (omega arith, rw (s.1, s.2) (turn_again T c.in-Some.pair.now _ c.from_le_bytes.result s.0.1.0 (omega arith) (let n = T.size in let l = T.long in omega (arith, ap length s.0.1.0, length-append c.in-Some.pair.now)) c.from_le_bytes.ensures))

pub returns : goal.returns
returns c =
    let s = c.in-None.ensures.steps in
    (refl, turn_end c.loop-i.invariant.1 (omega arith))
