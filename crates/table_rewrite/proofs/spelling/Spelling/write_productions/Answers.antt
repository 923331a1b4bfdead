use Rattle.std.proofs.Common.{arith}
use Rattle.table_rewrite.proofs.spelling.Reading.{symbol_index}
use Rattle.table_rewrite.proofs.spelling.Areas.{inside_is, head_small, spelled, productions-start, productions-asked, productions-room, productions-head, productions-first, productions-symbols, productions-step, productions_end}
use Rattle.table_rewrite.proofs.spelling.Spelling.write_productions.Goals as goal

pub loop-p-init : goal.loop-p-init
loop-p-init c = let S = spelled _ _ c.args.self.table.accepted c.args.self.of in productions-start _ c.args.self.table.accepted _ _ S.symbols c.requires.room

pub word-next-requires : goal.word-next-requires
word-next-requires c = let S = spelled _ _ c.args.self.table.accepted c.args.self.of in
    productions-asked _ c.args.self.table.accepted _ _ _ S.productions (omega (arith, c.loop-p-test.true, S.counts.productions)) (omega arith)

pub word-start-requires : goal.word-start-requires
word-start-requires c = let S = spelled _ _ c.args.self.table.accepted c.args.self.of in
    productions-asked _ c.args.self.table.accepted _ _ _ S.productions (omega (arith, c.loop-p-test.true, S.counts.productions)) (omega arith)

pub word-end-requires : goal.word-end-requires
word-end-requires c = let S = spelled _ _ c.args.self.table.accepted c.args.self.of in
    productions-asked _ c.args.self.table.accepted _ _ _ S.productions (omega (arith, c.loop-p-test.true, S.counts.productions)) (omega arith)

pub word-requires : goal.word-requires
word-requires c = let S = spelled _ _ c.args.self.table.accepted c.args.self.of in
    productions-asked _ c.args.self.table.accepted _ _ _ S.productions (omega (arith, c.loop-p-test.true, S.counts.productions)) (omega arith)

pub count_chain-many-requires : goal.count_chain-many-requires
count_chain-many-requires c = let S = spelled _ _ c.args.self.table.accepted c.args.self.of in
    let h = inside_is _ _ _ c.loop-p-test.true S.counts.productions in
    record { loose_index = (symbol_index _ _ (productions-first _ c.args.self.table.accepted _ _ _ _ h c.loop-p.invariant _ _ S.productions c.word.ensures.0).1, omega arith) }

pub put-requires : goal.put-requires
put-requires c = let S = spelled _ _ c.args.self.table.accepted c.args.self.of in
    let I = c.loop-p.invariant in
    let h = inside_is _ _ _ c.loop-p-test.true S.counts.productions in
    record { r_lt_record_limit = productions-room _ c.args.self.table.accepted _ _ _ _ h I _ S.productions; a_bound = (c.word-next.ensures.1, (head_small _ _ _ (productions-head _ c.args.self.table.accepted _ _ _ _ h I) c.head_of-head.ensures, (c.word-start.ensures.1, c.word-end.ensures.1))) }

pub overflow_add-y : goal.overflow_add-y
overflow_add-y c = let S = spelled _ _ c.args.self.table.accepted c.args.self.of in
    omega (arith, productions-head _ c.args.self.table.accepted _ _ _ _ (omega (arith, c.loop-p-test.true, S.counts.productions)) c.loop-p.invariant, c.count_chain-many.ensures)

pub loop-p-preserved : goal.loop-p-preserved
loop-p-preserved c = let S = spelled _ _ c.args.self.table.accepted c.args.self.of in
    let e = c.args.self.table.accepted in
    let I = c.loop-p.invariant in
    let h = inside_is _ _ _ c.loop-p-test.true S.counts.productions in
    let q = productions-first _ e _ _ _ _ h I _ _ S.productions c.word.ensures.0 in
    productions-step _ e _ _ _ _ h I _ _ _ _ _ _ _ S.productions c.word-next.ensures.0 c.word-start.ensures.0 c.word-end.ensures.0
    (productions-symbols _ e _ _ _ _ h I _ _ q.0 c.count_chain-many.ensures) c.head_of-head.ensures c.put.ensures

pub shape_of-out : goal.shape_of-out
shape_of-out c = c.loop-p.invariant.grown.long

pub returns : goal.returns
returns c = let S = spelled _ _ c.args.self.table.accepted c.args.self.of in
    productions_end _ c.args.self.table.accepted _ _ _ _ (omega (arith, c.loop-p-test.false, S.counts.productions)) c.loop-p.invariant
