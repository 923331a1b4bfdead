use Rattle.table.specs.Decoded.{meaning}
use Rattle.table.proofs.Decoding.{fits}
use Rattle.state_graph.proofs.Steps.{traced}
use Rattle.state_graph.proofs.trace_back_joined.Goals as goal

pub walk_joined-requires : goal.walk_joined-requires
walk_joined-requires c = rw c.new.ensures c.requires.state_in_bounds.1

pub returns : goal.returns
returns c = traced (meaning c.args.table.words.now) (fits c.args.table.words.now c.args.table.accepted) c.args.state c.requires.state_in_bounds.0 _ _ _ _ _ c.from.ensures (rw c.new.ensures at c.walk_joined.ensures)
