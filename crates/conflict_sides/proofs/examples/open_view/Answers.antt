use Prim.{tt}
use Rattle.std.proofs.lemmas.Result.{err_from_is_err_and}
use Rattle.trace.proofs.Traced.{fits-item}
use Rattle.conflict_sides.proofs.examples.Opening.{reads_working, carried, listable}
use Rattle.conflict_sides.proofs.examples.open_view.Goals as goal

pub invariant_of-tracer : goal.invariant_of-tracer
invariant_of-tracer c = record { working = reads_working _ _ _ _ _ _ _ c.args.item.given.reads }

pub trace_codes-requires : goal.trace_codes-requires
trace_codes-requires c = record { room = c.requires.room; within = (c.args.item.fits.0, fits-item _ _ c.args.item.fits.1); suffixes = λ _. c.args.item.given.reads.suffixes }

pub view_codes-requires : goal.view_codes-requires
view_codes-requires c = record { carried = (_, (_, (_, carried _ _ _ _ _ _ _ c.args.item.given.reads _ _ _ c.in_ok-trace_codes.ensures.coded.1))); blank = c.requires.blank }

pub returns : goal.returns
returns c = record { listable = (listable _ _ _ _ _ _ _ c.args.item.given.reads _ _ _ _ _ _ _ (c.view_codes.ensures _ _ _ (carried _ _ _ _ _ _ _ c.args.item.given.reads _ _ _ c.in_ok-trace_codes.ensures.coded.1))); edge_limit_in_bounds = tt }

pub returns-in_err-trace_codes : goal.returns-in_err-trace_codes
returns-in_err-trace_codes c = let p = err_from_is_err_and c.from_residual.result c.from_residual.ensures.1 in rw p.1 (record { listable = tt; edge_limit_in_bounds = c.in_err-trace_codes.ensures.full })
