use Rattle.yacc_writer.proofs.Turns.{left_long, numbered-first, numbered_more, terminals_end}
use native.Mathlib.Omega.{arith}
use Rattle.yacc_writer.proofs.put_terminals.Goals as goal

pub loop-t-init : goal.loop-t-init
loop-t-init c = numbered-first _ _ _ _ _

pub put_symbol-place-requires : goal.put_symbol-place-requires
put_symbol-place-requires c = (omega (arith, c.loop-t.invariant.near, c.loop-t-test.true, c.requires.0, c.requires.1), omega (arith, c.loop-t-test.true, c.requires.1))

pub loop-t-preserved : goal.loop-t-preserved
loop-t-preserved c = numbered_more c.loop-t.invariant c.loop-t-test.true c.put_symbol-place.ensures.0 c.put_symbol-place.ensures.1

pub shape_of-text : goal.shape_of-text
shape_of-text c = left_long c.loop-t.invariant.left

pub returns : goal.returns
returns c = terminals_end c.loop-t.invariant c.loop-t-test.false
