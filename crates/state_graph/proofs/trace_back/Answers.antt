use Rattle.table.specs.Decoded.{meaning}
use Rattle.table.proofs.Decoding.{fits}
use Rattle.state_graph.proofs.Steps.{traced}
use Rattle.state_graph.proofs.trace_back.Goals as goal

pub walk_back-requires : goal.walk_back-requires
walk_back-requires c = rw c.new.ensures c.requires.state_in_bounds.1

pub returns : goal.returns
returns c = traced (meaning c.args.table.words.now) (fits c.args.table.words.now c.args.table.accepted) c.args.state c.requires.state_in_bounds.0 _ _ _ _ _ c.from.ensures (rw c.new.ensures at c.walk_back.ensures.found)
