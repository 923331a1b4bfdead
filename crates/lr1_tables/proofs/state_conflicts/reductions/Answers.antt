use Rattle.std.proofs.Common.{refl, arith, length-set}
use Rattle.lr1_tables.proofs.state_conflicts.Laws.{reduced_more, reduced_end}
use Rattle.lr1_tables.proofs.state_conflicts.reductions.Goals as goal

pub loop-production-init : goal.loop-production-init
loop-production-init c = (refl, λ T e sets G q h. absurd (omega arith))

pub reduction-requires : goal.reduction-requires
reduction-requires c = (c.loop-production-test.true)

pub offset_bounds-map-production : goal.offset_bounds-map-production
offset_bounds-map-production c = omega (arith, c.loop-production-test.true, c.args.grammar.packed.few)

pub bounds-map-production : goal.bounds-map-production
bounds-map-production c = omega (arith, c.loop-production-test.true, c.args.grammar.packed.few)

pub loop-production-preserved : goal.loop-production-preserved
loop-production-preserved c = (simp length-set c.loop-production.invariant.0, λ T e sets G. reduced_more T c.args.grammar.productions c.args.state.now c.loop-production.map c.loop-production.production c.reduction.result.0 (c.loop-production.invariant.1 T e sets G) (omega (arith, c.loop-production-test.true, c.args.grammar.packed.few, c.loop-production.invariant.0)) (c.reduction.ensures T e sets G))

pub returns : goal.returns
returns c = (c.loop-production.invariant.0, λ T e sets G. reduced_end T c.args.grammar.productions c.args.state.now c.loop-production.map c.loop-production.production c.loop-production-test.false (c.loop-production.invariant.1 T e sets G))
