use Rattle.table.specs.Decoded.{meaning}
use Rattle.table.proofs.Decoding.{fits}
use Rattle.state_graph.proofs.Steps.{row_inside}
use native.Mathlib.Omega.{arith}
use Rattle.state_graph.proofs.StateWalk.step_back.Goals as goal

pub overflow_mul-row : goal.overflow_mul-row
overflow_mul-row c = omega (arith, row_inside (meaning c.args.self.now.table.words.now) (fits c.args.self.now.table.words.now c.args.self.now.table.accepted) c.args.kind c.args.number c.requires)

pub overflow_add-row : goal.overflow_add-row
overflow_add-row c = omega (arith, row_inside (meaning c.args.self.now.table.words.now) (fits c.args.self.now.table.words.now c.args.self.now.table.accepted) c.args.kind c.args.number c.requires)

pub place_of-place-requires : goal.place_of-place-requires
place_of-place-requires c = row_inside (meaning c.args.self.now.table.words.now) (fits c.args.self.now.table.words.now c.args.self.now.table.accepted) c.args.kind c.args.number c.requires
