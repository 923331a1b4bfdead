use Rattle.std.proofs.Common.{take}
use Rattle.automaton.specs.Reading.{ReadsFrom, HasToo}
use Rattle.automaton.proofs.reading.add_reading.Given as goal

abbrev pub invariant-loop-q : goal.invariant-loop-q
invariant-loop-q l = HasToo l.initial.found.items l.found.items (ReadsFrom l.grammar l.token (take l.q-index l.productions))
