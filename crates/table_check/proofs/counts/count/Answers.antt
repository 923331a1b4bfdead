use Rattle.std.proofs.Common.{arith}
use Rattle.table_check.proofs.Steps.{lengths-more, lengths-all}
use Rattle.table_check.proofs.counts.count.Goals as goal

pub symbol_count-requires : goal.symbol_count-requires
symbol_count-requires c = let A = c.args.s.of in record { p_bound = omega arith }

pub bounds-lengths-p : goal.bounds-lengths-p
bounds-lengths-p c = let A = c.args.s.of in omega (arith, c.loop-p-test.true)

pub loop-p-preserved : goal.loop-p-preserved
loop-p-preserved c = let A = c.args.s.of in
    lengths-more c.args.s.words.now c.loop-p.lengths c.loop-p.p c.symbol_count.result (omega (arith, c.loop-p-test.true)) c.symbol_count.ensures c.loop-p.invariant

pub returns : goal.returns
returns c = let A = c.args.s.of in lengths-all _ _ _ _ A.productions (omega arith) c.loop-p.invariant
