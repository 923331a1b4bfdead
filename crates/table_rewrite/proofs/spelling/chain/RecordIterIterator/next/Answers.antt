use Rattle.std.proofs.Common.{ap, arith, length}
use Rattle.table_rewrite.proofs.spelling.Reading.{index_asked, index_next, records-more}
use Rattle.table_rewrite.proofs.spelling.chain.RecordIterIterator.next.Goals as goal

pub word-requires : goal.word-requires
word-requires c = index_asked _ c.args.self.now.table.accepted _ c.if-self-eq0.false c.args.self.now.on _ (omega arith)

pub word-requires-2 : goal.word-requires-2
word-requires-2 c = index_asked _ c.args.self.now.table.accepted _ c.if-self-eq0.false c.args.self.now.on _ (omega arith)

pub word-requires-3 : goal.word-requires-3
word-requires-3 c = index_asked _ c.args.self.now.table.accepted _ c.if-self-eq0.false c.args.self.now.on _ (omega arith)

pub word-requires-4 : goal.word-requires-4
word-requires-4 c = index_asked _ c.args.self.now.table.accepted _ c.if-self-eq0.false c.args.self.now.on _ (omega arith)

pub invariant_of-self : goal.invariant_of-self
invariant_of-self c = record { on = index_next _ c.args.self.now.table.accepted _ c.if-self-eq0.false c.args.self.now.on _ c.word.ensures.0 }

pub returns-clause-goes : goal.returns-clause-goes
returns-clause-goes c =
    let fewer = ap length (records-more _ c.args.self.now.table.accepted _ c.if-self-eq0.false c.args.self.now.on _ c.word.ensures.0) in
    record { on = λ f. (tt, tt, omega (arith, fewer)); keeps = tt; rests = λ f. tt }
