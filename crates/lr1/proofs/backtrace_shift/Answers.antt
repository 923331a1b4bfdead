use Rattle.trace.specs.Outcome.{shift_of}
use Rattle.lr1.proofs.backtrace_shift.Goals as goal

pub returns : goal.returns
unfolding shift_of
returns c = rw (c.of.ensures.0, c.of.ensures.1) at c.backtrace.ensures
