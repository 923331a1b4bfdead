use native.Mathlib.Omega.{arith}
use mathlib.Core.Path.{sym, ◌∙◌}
use Rattle.table.specs.Decoded.{meaning}
use Rattle.yacc_writer.proofs.Turns.{ascends_first, ascends_empty, ascends_below, ascends_more, ascends_end, no_production_lem}
use Rattle.yacc_writer.proofs.ascends.Goals as goal

pub loop-n-init : goal.loop-n-init
loop-n-init c = (ascends_first _, c.counts-nonterminals.ensures.nonterminals)

pub productions-requires : goal.productions-requires
productions-requires c = omega (arith, c.loop-n-test.true, c.loop-n.invariant.1)

pub returns-in_default : goal.returns-in_default
returns-in_default c =
    let E = c.productions.ensures in
    let R = rw E.0 at c.in-Some.ensures.steps.1.1 in
    ascends_below c.loop-n.invariant.0 _ _ (omega (arith, c.loop-n-test.true, c.loop-n.invariant.1)) (sym E.1 ∙ R.list) c.if-least-first.false

pub returns-in_default-2 : goal.returns-in_default-2
returns-in_default-2 c = ascends_empty c.loop-n.invariant.0 (omega (arith, c.loop-n-test.true, c.loop-n.invariant.1)) (no_production_lem c.args.table.words.now (meaning c.args.table.words.now).nonterminals c.loop-n.n _ c.productions.ensures.1 c.in_default.ensures.steps.1)

pub overflow_add-least : goal.overflow_add-least
overflow_add-least c =
    let E = c.productions.ensures in
    let R = rw E.0 at c.in-Some.ensures.steps.1.1 in
    omega (arith, R.fits, c.counts-nonterminals.ensures.fits.few_productions_lem)

pub loop-n-preserved : goal.loop-n-preserved
loop-n-preserved c =
    let E = c.productions.ensures in
    let R = rw E.0 at c.in-Some.ensures.steps.1.1 in
    (ascends_more c.loop-n.invariant.0 _ _ (omega (arith, c.loop-n-test.true, c.loop-n.invariant.1)) (sym E.1 ∙ R.list) c.if-least-first.true, c.loop-n.invariant.1)

pub returns : goal.returns
returns c = ascends_end c.loop-n.invariant.0 (omega (arith, c.loop-n-test.false, c.loop-n.invariant.1))
