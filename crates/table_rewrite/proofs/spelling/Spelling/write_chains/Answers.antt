use Rattle.table_rewrite.proofs.spelling.Reading.{heads_asked}
use Rattle.table_rewrite.proofs.spelling.Writing.{walk_start, walk_asks, walk_step, walk_end}
use Rattle.table_rewrite.proofs.spelling.Spelling.write_chains.Goals as goal

pub loop-holder-init : goal.loop-holder-init
loop-holder-init c = walk_start _ _ _ _ _ _ (c.requires.heads, (c.requires.stands, c.requires.room))

pub word-head-requires : goal.word-head-requires
word-head-requires c = heads_asked _ _ _ _ c.args.self.table.accepted c.loop-holder.invariant.heads c.loop-holder-test.true

pub write_chain-at-requires : goal.write_chain-at-requires
write_chain-at-requires c = record { loose_index = walk_asks _ _ _ _ _ _ _ _ _ _ c.loop-holder-test.true c.word-head.ensures.0 c.loop-holder.invariant }

pub loop-holder-preserved : goal.loop-holder-preserved
loop-holder-preserved c = walk_step _ _ _ _ _ _ _ _ _ _ c.loop-holder-test.true c.word-head.ensures.0 c.loop-holder.invariant _ _ c.write_chain-at.ensures

pub shape_of-out : goal.shape_of-out
shape_of-out c = c.loop-holder.invariant.grown.long

pub returns : goal.returns
returns c = walk_end _ _ _ _ _ _ _ _ _ c.loop-holder-test.false c.loop-holder.invariant
