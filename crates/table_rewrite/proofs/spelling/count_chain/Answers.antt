use Rattle.std.proofs.Common.{ap, arith, length}
use Rattle.table_rewrite.specs.spelling.Grown.{records_from}
use Rattle.table_rewrite.specs.declared.spelling.chain.RecordIter.{RecordIter}
use Rattle.table_rewrite.proofs.spelling.Counting.{taken}
use Rattle.table_rewrite.proofs.spelling.count_chain.Goals as goal

pub returns : goal.returns
returns c =
    let r = c.count.ensures.ran in
    let n = taken r.0 c.take.result r.1.1.0 r.1.0 r.1.1.1 r.1.1.2 in
    let l = ap (λ (i : RecordIter). length (records_from i.table.words.now i.at)) c.take.ensures.source in
    omega (arith, r.2, n, l, c.take.ensures.count)
