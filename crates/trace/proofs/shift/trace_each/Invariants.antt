use Rattle.trace.specs.edge_codes.Lent.{SameWords}
use Rattle.trace.specs.Tails.{TwoTails}
use Rattle.trace.proofs.States.{Rounds}
use Rattle.trace.proofs.shift.trace_each.Given as goal

abbrev pub invariant-loop-state : goal.invariant-loop-state
invariant-loop-state g l = Rounds l.tracer.table.words.now l.nonterminal l.fn.states.low l.fn.states.high l.initial.edges.words.now l.initial.edges.flags.now l.state-iterator.0.low l.state-iterator.0.high l.edges.words.now l.edges.flags.now l.entered l.traced × TwoTails l.tracer.table.words.now l.tail.records l.tail.links l.other.records l.other.links × SameWords l.initial.edges l.edges
