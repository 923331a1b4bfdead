use Rattle.state_graph.proofs.States.{insert_low, insert_high, insert-none}
use mathlib.Core.Path.{refl}
use native.Mathlib.Omega.{arith}
use Rattle.state_graph.proofs.StateSet.insert.Goals as goal

pub returns-in-0-to-63 : goal.returns-in-0-to-63
returns-in-0-to-63 c = λ k. insert_low c.args.self.low c.args.self.high c.args.state _ k (omega arith) refl

pub returns-in-64-to-127 : goal.returns-in-64-to-127
returns-in-64-to-127 c = λ k. insert_high c.args.self.low c.args.self.high c.args.state _ k (omega arith) (omega arith) refl

pub returns-in_default : goal.returns-in_default
returns-in_default c = λ k. insert-none c.args.self.low c.args.self.high c.args.state k (omega arith)
