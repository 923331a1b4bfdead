use Rattle.state_graph.proofs.States.{tested_low, tested_high, state_outside}
use mathlib.Core.Path.{sym}
use native.Mathlib.Omega.{arith}
use Rattle.state_graph.proofs.StateSet.contains.Goals as goal

pub returns-in-0-to-63 : goal.returns-in-0-to-63
returns-in-0-to-63 c = tested_low c.args.self.low c.args.self.high c.args.state (omega arith)

pub returns-in-64-to-127 : goal.returns-in-64-to-127
returns-in-64-to-127 c = tested_high c.args.self.low c.args.self.high c.args.state (omega arith)

pub returns-in_default : goal.returns-in_default
returns-in_default c = sym (state_outside c.args.self.low c.args.self.high c.args.state (omega (arith, c.well_formed)) (omega arith))
