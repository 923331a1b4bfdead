use Rattle.trace.proofs.edge_codes.Answered.{on_ok, on_err}
use Rattle.trace.proofs.edge_codes.Lent.{coded_lent}
use Rattle.std.proofs.Common.{rules, ◌<◌, length, refl}
use Rattle.lr1_base.specs.repr.Sizes.{edge_limit}
use Rattle.table.specs.Decoded.{meaning}
use Rattle.trace.specs.edge_codes.Coded.{Coded}
use Rattle.trace.proofs.Begin.{item-words, prefix-listed, found_is, found_in_lem, shift_from}
use Rattle.trace.proofs.shift.shift_codes.Goals as goal

pub prefix-requires : goal.prefix-requires
prefix-requires c = let q = item-words c.args.tracer.working c.requires.within.0 c.requires.within.1 in record { within = q.0; index_in_bounds = q.1 }

pub trace_back-states-requires : goal.trace_back-states-requires
trace_back-states-requires c = record { state_in_bounds = (c.requires.within.0, prefix-listed c.args.tracer.working c.requires.within.0 c.requires.within.1 _ c.prefix.ensures.0) }

pub shift_over-requires : goal.shift_over-requires
shift_over-requires c = record { entered = refl; within = (found_in_lem c.args.tracer.working c.requires.within.0 c.requires.within.1 _ (found_is c.args.tracer.working c.requires.within.0 c.requires.within.1 _ _ c.prefix.ensures.1 c.trace_back-states.ensures), c.requires.within.1) }

pub returns : goal.returns
returns c = let e = found_is c.args.tracer.working c.requires.within.0 c.requires.within.1 _ _ c.prefix.ensures.1 c.trace_back-states.ensures in let C = c.clear.ensures.none (meaning c.args.tracer.table.words.now) in record { coded = on_ok c.shift_over.result c.shift_over.ensures.coded (λ r. (_, coded_lent (search rules) (shift_from c.args.tracer.working c.requires.within.0 c.requires.within.1 _ e _ _ C (Coded (meaning c.args.tracer.table.words.now) _ _) r))); full = on_err c.shift_over.result c.shift_over.ensures.full (λ r. shift_from c.args.tracer.working c.requires.within.0 c.requires.within.1 _ e _ _ C (λ es. edge_limit < length es) r) }
