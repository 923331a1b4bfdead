use Rattle.yacc_writer.proofs.Turns.{left_long, numbered-first, numbered_more, productions_end}
use native.Mathlib.Omega.{arith}
use Rattle.yacc_writer.proofs.put_productions.Goals as goal

pub loop-p-init : goal.loop-p-init
loop-p-init c = numbered-first _ _ _ _ _

pub put_production-place-requires : goal.put_production-place-requires
put_production-place-requires c = (omega (arith, c.loop-p.invariant.near, c.loop-p-test.true, c.requires, c.args.grammar.packed.few), c.loop-p-test.true)

pub loop-p-preserved : goal.loop-p-preserved
loop-p-preserved c = numbered_more c.loop-p.invariant c.loop-p-test.true c.put_production-place.ensures.0 c.put_production-place.ensures.1

pub shape_of-text : goal.shape_of-text
shape_of-text c = left_long c.loop-p.invariant.left

pub returns : goal.returns
returns c = productions_end c.args.grammar.words.now c.loop-p.invariant c.loop-p-test.false
