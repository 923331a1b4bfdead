use Rattle.std.proofs.Common.{[], take}
use Rattle.automaton.specs.Reading.{HasToo}
use Rattle.automaton.proofs.Readings.{ReadsEntry, ReadsOf}
use Rattle.automaton.proofs.reading.items_reading.Given as goal

abbrev pub invariant-loop-entry : goal.invariant-loop-entry
invariant-loop-entry l = HasToo [] l.found.items (ReadsEntry l.grammar l.token (take l.entry-index l.kernel))

abbrev pub invariant-loop-n : goal.invariant-loop-n
invariant-loop-n l = HasToo l.initial.found.items l.found.items (ReadsOf l.grammar l.alternatives l.token (take l.n-index l.n-items))
