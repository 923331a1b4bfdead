use Rattle.std.proofs.Common.{arith}
use Rattle.table_rewrite.proofs.spelling.Areas.{spelled, counts-put}
use Rattle.table_rewrite.proofs.spelling.All.{all_grown, symbols-source, items_source, edges_source, source_stands, source-done, room-first}
use Rattle.table_rewrite.proofs.spelling.Spelling.write_all.Goals as goal

pub put-requires-clause-room : goal.put-requires-clause-room
put-requires-clause-room c = omega (arith, room-first _ _ c.requires.room)

pub put-requires-clause-small : goal.put-requires-clause-small
put-requires-clause-small c = let C = (spelled _ _ c.args.self.table.accepted c.args.self.of).counts in
    let F = C.fits in
    (omega (arith, C.nonterminals, F.few_nonterminals), (omega (arith, C.terminals, F.few_terminals), (omega (arith, C.states, F.few_states), omega (arith, C.productions, F.few_productions_lem))))

pub write_chains-items-requires-clause-heads : goal.write_chains-items-requires-clause-heads
write_chains-items-requires-clause-heads c = (symbols-source _ c.args.self.table.accepted _ _ _ c.symbols.ensures).heads

pub write_chains-items-requires-clause-stands : goal.write_chains-items-requires-clause-stands
write_chains-items-requires-clause-stands c = let S = spelled _ _ c.args.self.table.accepted c.args.self.of in
    source_stands _ c.args.out.now _ _ _ _ _ _ (symbols-source _ c.args.self.table.accepted _ _ _ c.symbols.ensures) S.symbols

pub write_chains-edges-requires-clause-heads : goal.write_chains-edges-requires-clause-heads
write_chains-edges-requires-clause-heads c = (items_source _ c.args.self.table.accepted _ _ _ c.items.ensures).heads

pub write_chains-edges-requires-clause-stands : goal.write_chains-edges-requires-clause-stands
write_chains-edges-requires-clause-stands c = source_stands _ c.args.out.now _ _ _ _ _ _ (items_source _ c.args.self.table.accepted _ _ _ c.items.ensures) c.requires.items

pub write_chains-records-requires-clause-heads : goal.write_chains-records-requires-clause-heads
write_chains-records-requires-clause-heads c = (edges_source _ c.args.self.table.accepted _ _ _ c.edges.ensures).heads

pub write_chains-records-requires-clause-stands : goal.write_chains-records-requires-clause-stands
write_chains-records-requires-clause-stands c = source_stands _ c.args.out.now _ _ _ _ _ _ (edges_source _ c.args.self.table.accepted _ _ _ c.edges.ensures) c.requires.edges

pub returns : goal.returns
returns c =
    let e = c.args.self.table.accepted in
    let S = spelled _ _ e c.args.self.of in
    all_grown _ _ _ _ _ _ _ _ _ _ _ _ (counts-put _ _ _ _ _ _ _ S.counts c.requires.room c.put.ensures) c.write_nonterminals.ensures c.write_states.ensures c.write_productions.ensures
    (source-done _ _ _ _ _ _ _ _ (symbols-source _ e _ _ _ c.symbols.ensures) S.symbols _ _ c.write_chains-items.ensures)
    (source-done _ _ _ _ _ _ _ _ (items_source _ e _ _ _ c.items.ensures) c.requires.items _ _ c.write_chains-edges.ensures)
    (source-done _ _ _ _ _ _ _ _ (edges_source _ e _ _ _ c.edges.ensures) c.requires.edges _ _ c.write_chains-records.ensures)
