use Rattle.std.proofs.lemmas.Result.{err_from_is_err_and}
use Rattle.trace.proofs.edge_codes.Answered.{on_ok, on_err}
use Rattle.std.proofs.Common.{◌<◌, length, ◌∙◌, arith}
use Rattle.lr1_base.specs.repr.Sizes.{edge_limit}
use Rattle.table.specs.Decoded.{meaning}
use Rattle.table.proofs.Decoding.{fits}
use Rattle.state_graph.specs.States.{states_in}
use Rattle.trace.proofs.Fuel.{owner_lt}
use Rattle.trace.specs.edge_codes.Coded.{Coded}
use Rattle.trace.proofs.edge_codes.Lent.{same_then}
use Rattle.trace.proofs.Turns.{work_many, work_owner}
use Rattle.trace.proofs.Passing.{edge_small}
use Rattle.trace.proofs.States.{first-full, first_then}
use Rattle.trace.proofs.shift.shift_over.Goals as goal

pub to_item-requires : goal.to_item-requires
to_item-requires c = edge_small c.args.tracer.working _ c.requires.within.1

pub returns-in_err-to_item : goal.returns-in_err-to_item
returns-in_err-to_item c = let p = err_from_is_err_and c.from_residual.result c.from_residual.ensures.1 in rw p.1 (record { coded = tt; full = first-full (meaning c.args.tracer.table.words.now) (record { production = c.args.item.production; index = c.args.item.index }) (states_in c.args.states.low c.args.states.high) _ _ (c.in_err-to_item.ensures.full _ (fits c.args.tracer.table.words.now c.args.tracer.working.accepted) c.args.tracer.working.least c.requires.within.1); same = c.to_item.ensures.same })

pub owner-owner-requires : goal.owner-owner-requires
owner-owner-requires c = let n = work_many _ _ _ _ c.args.tracer.working in let pl : c.args.item.production < c.args.tracer.grammar.productions = omega (arith, c.requires.within.1.production) in pl

pub trace_states-requires : goal.trace_states-requires
trace_states-requires c = let n = work_many _ _ _ _ c.args.tracer.working in let pl : c.args.item.production < c.args.tracer.grammar.productions = omega (arith, c.requires.within.1.production) in record { entered = c.requires.entered; within = (c.requires.within.0, rw (c.owner-owner.ensures ∙ work_owner _ _ _ _ c.args.tracer.working c.args.item.production c.args.item.index pl) (owner_lt (meaning c.args.tracer.table.words.now) (fits c.args.tracer.table.words.now c.args.tracer.working.accepted) (record { production = c.args.item.production; index = c.args.item.index }))) }

pub returns : goal.returns
returns c = let n = work_many _ _ _ _ c.args.tracer.working in let pl : c.args.item.production < c.args.tracer.grammar.productions = omega (arith, c.requires.within.1.production) in record { coded = on_ok c.trace_states.result c.trace_states.ensures.coded (λ r. first_then (meaning c.args.tracer.table.words.now) (record { production = c.args.item.production; index = c.args.item.index }) (states_in c.args.states.low c.args.states.high) _ _ _ _ (c.in_ok-to_item.ensures.coded _ (fits c.args.tracer.table.words.now c.args.tracer.working.accepted) c.args.tracer.working.least c.requires.within.1) _ (c.owner-owner.ensures ∙ work_owner _ _ _ _ c.args.tracer.working c.args.item.production c.args.item.index pl) (Coded (meaning c.args.tracer.table.words.now) _ _) r); full = on_err c.trace_states.result c.trace_states.ensures.full (λ r. first_then (meaning c.args.tracer.table.words.now) (record { production = c.args.item.production; index = c.args.item.index }) (states_in c.args.states.low c.args.states.high) _ _ _ _ (c.in_ok-to_item.ensures.coded _ (fits c.args.tracer.table.words.now c.args.tracer.working.accepted) c.args.tracer.working.least c.requires.within.1) _ (c.owner-owner.ensures ∙ work_owner _ _ _ _ c.args.tracer.working c.args.item.production c.args.item.index pl) (λ es. edge_limit < length es) r); same = same_then c.to_item.ensures.same c.trace_states.ensures.same }
