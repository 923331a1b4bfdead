use Rattle.std.proofs.Common.{arith}
use Rattle.table.proofs.Reached.{loose-named}
use Rattle.table_check.proofs.Passed.{tested, reaching_no}
use Rattle.table_check.proofs.mark.Marks.pass.Goals as goal

pub pass_to-requires : goal.pass_to-requires
pass_to-requires g c = let A = c.args.s.of in
    let N = loose-named _ _ _ (tested _ _ _ _ c.loose.ensures.records c.names.ensures c.if-names.true) in
    omega (arith, c.requires.inside, c.requires.room, A.records, N.early)

pub returns-then-names-clause-reaching : goal.returns-then-names-clause-reaching
returns-then-names-clause-reaching g c = c.pass_to.ensures.reaching _ c.word-x.ensures.0 (tested _ _ _ _ c.loose.ensures.records c.names.ensures c.if-names.true)

pub returns-else-names-clause-reaching : goal.returns-else-names-clause-reaching
returns-else-names-clause-reaching g c = λ R. reaching_no R c.word-x.ensures.0 (tested _ _ _ _ c.loose.ensures.records c.names.ensures c.if-names.false)
