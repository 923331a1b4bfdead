use Rattle.std.specs.Prelude.{List}
use Rattle.lr1_base.specs.repr.Meaning.{Production}
use Rattle.trace_graph.specs.Graph.{TraceEdge}
use Rattle.enumerator.specs.filter.Given.{Tried}
use Rattle.enumerator.proofs.filter.Reading.{Reading}
use Rattle.enumerator.proofs.filter.write_labels.Given as goal

abbrev pub invariant-loop-at : goal.invariant-loop-at
invariant-loop-at l = (ps : List Production) (es : List TraceEdge) → Tried ps es l.edges.owners.now l.edges.codes.now l.words → Reading ps es l.edges.owners.now l.edges.codes.now l.words l.initial.labels l.count l.labels l.at
