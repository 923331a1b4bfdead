use Rattle.std.proofs.Common.{refl, arith}
use Rattle.lr1_base.specs.repr.Packed.{productions_in}
use Rattle.trace.proofs.edge_codes.Least.{filling_start, filling_more, filling_done}
use Rattle.trace.proofs.edge_codes.least_productions.Goals as goal
use Rattle.lr1_base.proofs.repr.Packed.{productions_long}

pub loop-p-init : goal.loop-p-init
loop-p-init c = let m = productions_long c.args.grammar.words.now c.args.grammar.productions in filling_start (productions_in c.args.grammar.words.now c.args.grammar.productions) _ (omega (arith, c.args.grammar.packed.few)) refl

pub overflow_cast-least : goal.overflow_cast-least
overflow_cast-least c = omega (arith, c.least_same.ensures.1)

pub bounds-least-p : goal.bounds-least-p
bounds-least-p c = omega (arith, c.loop-p-test.true, c.args.grammar.packed.few, c.loop-p.invariant.long)

pub loop-p-preserved : goal.loop-p-preserved
loop-p-preserved c = let m = productions_long c.args.grammar.words.now c.args.grammar.productions in filling_more (productions_in c.args.grammar.words.now c.args.grammar.productions) _ c.loop-p.p _ c.loop-p.invariant (omega (arith, c.loop-p-test.true)) c.least_same.ensures.0 c.least_same.ensures.1

pub returns : goal.returns
returns c = let m = productions_long c.args.grammar.words.now c.args.grammar.productions in filling_done (productions_in c.args.grammar.words.now c.args.grammar.productions) _ c.loop-p.p c.loop-p.invariant (omega (arith, c.loop-p-test.false))
