use native.Mathlib.Omega.{arith}
use Rattle.table_rewrite.proofs.spelling.Reading.{heads_asked}
use Rattle.table_rewrite.proofs.spelling.Counting.{totalling_start, totalling_head, totalling_step, totalling_end}
use Rattle.table_rewrite.proofs.spelling.Spelling.count_chains.Goals as goal

pub loop-holder-init : goal.loop-holder-init
loop-holder-init c = totalling_start _ _ _ _ _ c.requires.heads

pub word-head-requires : goal.word-head-requires
word-head-requires c = heads_asked _ _ _ _ c.args.self.table.accepted c.loop-holder.invariant.heads c.loop-holder-test.true

pub overflow_sub-most : goal.overflow_sub-most
overflow_sub-most c = c.loop-holder.invariant.few

pub count_chain-total-requires : goal.count_chain-total-requires
count_chain-total-requires c = record { loose_index = (totalling_head _ _ _ _ _ _ _ _ c.loop-holder-test.true c.word-head.ensures.0 c.loop-holder.invariant, omega (arith, c.requires.most)) }

pub overflow_add-total : goal.overflow_add-total
overflow_add-total c = omega (arith, c.loop-holder.invariant.few, c.requires.most, c.count_chain-total.ensures)

pub loop-holder-preserved : goal.loop-holder-preserved
loop-holder-preserved c = totalling_step _ _ _ _ _ _ _ _ _ c.loop-holder-test.true c.word-head.ensures.0 c.count_chain-total.ensures c.loop-holder.invariant

pub returns : goal.returns
returns c = totalling_end _ _ _ _ _ _ _ c.loop-holder-test.false c.loop-holder.invariant
