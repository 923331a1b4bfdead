use Rattle.std.proofs.Common.{arith}
use Rattle.trace.proofs.Exchanging.{tails_new}
use Rattle.trace.proofs.shift.trace_states.Goals as goal

pub trace_each-requires : goal.trace_each-requires
trace_each-requires c = (omega arith, (c.requires.entered, (c.requires.within, tails_new _ 0 (omega arith) _ _ _ _ c.new-tail.ensures c.new-other.ensures)))

pub trace_each-requires-2 : goal.trace_each-requires-2
trace_each-requires-2 c = (omega arith, (c.requires.entered, (c.requires.within, tails_new _ 1998 (omega arith) _ _ _ _ c.new-tail-2.ensures c.new-other-2.ensures)))
