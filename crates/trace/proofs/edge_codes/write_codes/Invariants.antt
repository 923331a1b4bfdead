use Rattle.trace.proofs.edge_codes.Writing.{Writing}
use Rattle.trace.proofs.edge_codes.write_codes.Given as goal

abbrev pub invariant-loop-k : goal.invariant-loop-k
invariant-loop-k l = Writing l.grammar l.words l.initial.graph l.graph l.k
