use Rattle.std.proofs.lemmas.Result.{err_from_is_err_and}
use Rattle.std.proofs.Common.{refl}
use Rattle.table.specs.Decoded.{meaning}
use Rattle.trace.proofs.Ways.{working, asked-item, carried, front_is}
use Rattle.trace.proofs.build.Goals as goal

pub invariant_of-tracer : goal.invariant_of-tracer
invariant_of-tracer c = record { working = working c.args.table.accepted c.args.grammar.packed c.requires.asked _ c.least_productions-least.ensures.0 c.least_productions-least.ensures.1 }

pub trace_codes-requires : goal.trace_codes-requires
trace_codes-requires c = record { room = refl; within = (c.requires.asked.state, asked-item c.args.table.accepted c.args.grammar.packed c.requires.asked); suffixes = c.ends_for-ends.ensures }

pub write_codes-requires : goal.write_codes-requires
write_codes-requires c = record { carried = (c.args.grammar.productions, (meaning c.args.table.words.now, (_, carried c.args.table.accepted c.args.grammar.packed c.requires.asked _ _ _ c.in_ok-trace_codes.ensures.coded.1))); room = c.requires.room }

pub shape_of-graph : goal.shape_of-graph
shape_of-graph c = c.write_codes.auto.graph

pub returns : goal.returns
returns c = let C = c.in_ok-trace_codes.ensures.coded.1 in record { built = (C.few, front_is _ _ _ (c.write_codes.ensures _ _ _ (carried c.args.table.accepted c.args.grammar.packed c.requires.asked _ _ _ C))); full = tt }

pub returns-in_err-trace_codes : goal.returns-in_err-trace_codes
returns-in_err-trace_codes c = let p = err_from_is_err_and c.from_residual.result c.from_residual.ensures.1 in rw p.1 (record { built = tt; full = (c.in_err-trace_codes.ensures.full, refl) })
