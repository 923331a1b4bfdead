use Rattle.table.specs.Decoded.{meaning}
use Rattle.state_graph.proofs.Steps.{none_remembered}
use Rattle.state_graph.proofs.StateWalk.new.Goals as goal

pub invariant_of-result : goal.invariant_of-result
invariant_of-result c = record { remembered = none_remembered (meaning c.args.table.words.now) }
