use Rattle.lr1_tables.proofs.conflict_words.Laws.{shifts-room, pairs-room, production-done}
use native.Mathlib.Omega.{arith}
use Rattle.lr1_tables.proofs.conflict_words.write_production.Goals as goal

pub overflow_cast-pair : goal.overflow_cast-pair
overflow_cast-pair c = omega (arith, c.requires.production_lt_productions, c.args.actions.now.few)

pub shifts_of-requires : goal.shifts_of-requires
shifts_of-requires c = omega (arith, c.requires.production_lt_productions, c.args.actions.now.few)

pub write_tokens-place-requires : goal.write_tokens-place-requires
write_tokens-place-requires c = shifts-room c.args.state c.args.actions.now.reductions c.args.actions.now.shifts.0 c.args.actions.now.productions c.args.production c.shifts_of.result.0 _ c.args.list.now c.shifts_of.ensures c.requires.production_in_bounds

pub write_pairs-requires : goal.write_pairs-requires
write_pairs-requires c = record { production_lt_productions = c.requires.production_lt_productions; production_in_bounds = pairs-room c.args.state c.args.actions.now.reductions c.args.actions.now.shifts.0 c.args.actions.now.productions c.args.production c.shifts_of.result.0 _ _ c.shifts_of.ensures c.requires.production_in_bounds _ _ c.write_tokens-place.ensures.0 c.write_tokens-place.ensures.1 }

pub returns : goal.returns
returns c = production-done c.args.state c.args.actions.now.reductions c.args.actions.now.shifts.0 c.args.actions.now.productions c.args.production c.shifts_of.result.0 _ _ c.shifts_of.ensures c.requires.production_in_bounds _ _ c.write_tokens-place.ensures.0 c.write_tokens-place.ensures.1 _ _ c.write_pairs.ensures.0 c.write_pairs.ensures.1
