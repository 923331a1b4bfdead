use Rattle.std.proofs.Common.{arith}
use Rattle.table_rewrite.proofs.spelling.Areas.{spelled}
use Rattle.table_rewrite.proofs.spelling.All.{symbols-source, items_source, edges_source, sizes_of}
use Rattle.table_rewrite.proofs.spelling.Spelling.measure.Goals as goal

pub count_chains-requires-clause-heads : goal.count_chains-requires-clause-heads
count_chains-requires-clause-heads c = (symbols-source _ c.args.self.table.accepted _ _ _ c.symbols.ensures).heads

pub count_chains-requires-2-clause-heads : goal.count_chains-requires-2-clause-heads
count_chains-requires-2-clause-heads c = (items_source _ c.args.self.table.accepted _ _ _ c.items.ensures).heads

pub count_chains-requires-3-clause-heads : goal.count_chains-requires-3-clause-heads
count_chains-requires-3-clause-heads c = (edges_source _ c.args.self.table.accepted _ _ _ c.edges.ensures).heads

pub returns : goal.returns
returns c =
    let A = c.args.self.of in
    let e = c.args.self.table.accepted in
    let S = spelled _ _ e A in
    sizes_of _ _ _ _ _ _ _ _ S.symbols (omega (arith, A.room, A.few)) (symbols-source _ e _ _ _ c.symbols.ensures).size (items_source _ e _ _ _ c.items.ensures).size
    (edges_source _ e _ _ _ c.edges.ensures).size c.count_chains.ensures c.count_chains-2.ensures c.count_chains-3.ensures
