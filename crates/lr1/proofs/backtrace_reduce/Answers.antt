use Rattle.trace.specs.Outcome.{reduce_of}
use Rattle.lr1.proofs.backtrace_reduce.Goals as goal

pub returns : goal.returns
unfolding reduce_of
returns c = rw (c.of.ensures.0, c.of.ensures.1) at c.backtrace.ensures
