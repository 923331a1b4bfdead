use Rattle.lr1_tables.proofs.conflict_words.Laws.{state_words_lem, state_none, state_room}
use Rattle.lr1_tables.proofs.state_conflicts.Counts.{joined_start}
use Rattle.lr1_tables.specs.state_conflicts.Clashed.{clashes_in}
use Rattle.lr1_base.proofs.words.Put.{turn_start, turn_next, turn_end}
use Rattle.lr1_states.specs.canonical.Built.{clash_words}
use Rattle.lr1_base.specs.repr.Lists.{joined}
use mathlib.Core.Path.{ap}
use Rattle.lr1_tables.proofs.conflict_words.write_actions.Goals as goal

pub loop-production-init : goal.loop-production-init
loop-production-init c = turn_start _ _ _ _ (ap (joined (clash_words c.args.state)) (joined_start (clashes_in c.args.actions.now.reductions c.args.actions.now.shifts.0 c.args.actions.now.productions) c.args.actions.now.productions)) c.requires

pub write_production-place-requires : goal.write_production-place-requires
write_production-place-requires c = record { production_lt_productions = c.loop-production-test.true; production_in_bounds = state_room c.args.state c.args.actions.now.reductions c.args.actions.now.shifts.0 c.args.actions.now.productions c.loop-production.production _ _ _ _ _ c.loop-production.invariant c.loop-production-test.true }

pub loop-production-preserved : goal.loop-production-preserved
loop-production-preserved c = turn_next c.loop-production.invariant _ _ (state_words_lem c.args.state c.args.actions.now.reductions c.args.actions.now.shifts.0 c.args.actions.now.productions c.loop-production.production c.loop-production-test.true) _ c.write_production-place.ensures.0 _ c.write_production-place.ensures.1

pub shape_of-list : goal.shape_of-list
shape_of-list c = c.loop-production.invariant.size

pub returns : goal.returns
returns c = turn_end c.loop-production.invariant (state_none c.args.state c.args.actions.now.reductions c.args.actions.now.shifts.0 c.args.actions.now.productions c.loop-production.production c.loop-production-test.false)
