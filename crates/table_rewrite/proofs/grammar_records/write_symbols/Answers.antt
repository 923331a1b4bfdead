use Rattle.table_rewrite.proofs.grammar_records.Symbols.{walk_start, walk-fits, walk_stands, walk_step, walk_end}
use Rattle.table_rewrite.proofs.grammar_records.write_symbols.Goals as goal

pub loop-p-init : goal.loop-p-init
loop-p-init c = λ U P e R. walk_start U _ _ P _ _ e R

pub write_chain-at-requires : goal.write_chain-at-requires
write_chain-at-requires c = let Q = c.requires in
    let W = c.loop-p.invariant Q.0 Q.1.0 Q.1.1.0 Q.1.1.1 in record { symbols_value = walk-fits Q.0 _ _ Q.1.0 _ _ _ _ _ c.loop-p-test.true c.symbols.ensures W; stands = (Q.0, (walk_stands Q.0 _ _ Q.1.0 _ _ _ _ _ c.loop-p-test.true c.symbols.ensures W, W.room)) }

pub loop-p-preserved : goal.loop-p-preserved
loop-p-preserved c = λ U P e R. let W = c.loop-p.invariant U P e R in walk_step U _ _ P _ _ _ _ _ c.loop-p-test.true c.symbols.ensures W _ _ c.write_chain-at.ensures.0 (c.write_chain-at.ensures.1 U (walk_stands U _ _ P _ _ _ _ _ c.loop-p-test.true c.symbols.ensures W) W.room)

pub shape_of-out : goal.shape_of-out
shape_of-out c = let Q = c.requires in
    (c.loop-p.invariant Q.0 Q.1.0 Q.1.1.0 Q.1.1.1).grown.long

pub returns : goal.returns
returns c = λ U P e R. walk_end U _ _ P _ _ _ _ c.loop-p.auto.p-end c.loop-p-test.false (c.loop-p.invariant U P e R)
