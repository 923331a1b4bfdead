use Rattle.trace.specs.edge_codes.Lent.{SameWords}
use Rattle.trace.specs.Held.{unset}
use Rattle.trace.proofs.Turns.{Turning}
use Rattle.trace.specs.Tails.{Usable}
use Rattle.trace.proofs.Places.{left, further, Placed}
use Rattle.trace.proofs.shift.+trace_epsilon.Given as goal

abbrev pub invariant-loop-place : goal.invariant-loop-place
invariant-loop-place l = (L : Usable l.tracer.table.words.now l.records l.links) × Turning l.tracer.table.words.now l.state l.nonterminal l.initial.edges.words.now l.initial.edges.flags.now l.initial.entered l.edges.words.now l.edges.flags.now l.entered (left l.tracer.table.words.now l.records L.count l.place.slot l.place.at) × Placed l.tracer.table.words.now l.records l.links L l.nonterminal l.place.slot l.place.at × SameWords l.initial.edges l.edges

abbrev pub decreases-loop-place : goal.decreases-loop-place
decreases-loop-place l = further l.tracer.table.words.now l.place.slot l.place.at

abbrev pub decreases-trace_epsilon : goal.decreases-trace_epsilon
decreases-trace_epsilon l = unset l.entered.now
