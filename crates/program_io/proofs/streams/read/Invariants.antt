use Rattle.std.proofs.Common.{◌-◌, ◌≤◌, length}
use Rattle.program_io.proofs.streams.read.Given as goal

abbrev pub invariant-loop-got : goal.invariant-loop-got
invariant-loop-got g l = l.got ≤ length l.bytes

abbrev pub decreases-loop-got : goal.decreases-loop-got
decreases-loop-got g l = length l.bytes - l.got
