use Rattle.std.proofs.Common.{arith}
use Rattle.table.proofs.Indexes.{nonterminal-asked}
use Rattle.table_rewrite.proofs.spelling.Areas.{spelled, nonterminals-start, nonterminals-room, nonterminals-step, nonterminals_end}
use Rattle.table_rewrite.proofs.spelling.Spelling.write_nonterminals.Goals as goal

pub loop-n-init : goal.loop-n-init
loop-n-init c = nonterminals-start _ c.args.self.table.accepted _ c.requires.room

pub word-head-requires : goal.word-head-requires
word-head-requires c = let S = spelled _ _ c.args.self.table.accepted c.args.self.of in
    nonterminal-asked _ c.args.self.table.accepted _ _ (omega (arith, c.loop-n-test.true, S.counts.nonterminals)) (omega arith)

pub put-requires-clause-r_lt_record_limit : goal.put-requires-clause-r_lt_record_limit
put-requires-clause-r_lt_record_limit c = let S = spelled _ _ c.args.self.table.accepted c.args.self.of in
    nonterminals-room _ c.args.self.table.accepted _ _ _ (omega (arith, c.loop-n-test.true, S.counts.nonterminals)) c.loop-n.invariant

pub loop-n-preserved : goal.loop-n-preserved
loop-n-preserved c = let S = spelled _ _ c.args.self.table.accepted c.args.self.of in
    nonterminals-step _ c.args.self.table.accepted _ _ _ (omega (arith, c.loop-n-test.true, S.counts.nonterminals)) c.loop-n.invariant _ _ c.word-head.ensures.0 c.put.ensures

pub shape_of-out : goal.shape_of-out
shape_of-out c = c.loop-n.invariant.grown.long

pub returns : goal.returns
returns c = let S = spelled _ _ c.args.self.table.accepted c.args.self.of in
    nonterminals_end _ c.args.self.table.accepted _ _ _ (omega (arith, c.loop-n-test.false, S.counts.nonterminals)) c.loop-n.invariant
