use Rattle.state_graph.proofs.States.{states_count, count_few}
use native.Mathlib.Omega.{arith}
use Rattle.state_graph.proofs.StateSet.len.Goals as goal

pub overflow_add-result : goal.overflow_add-result
overflow_add-result c = let a = count_few c.args.self.low _ c.len.ensures in let b = count_few c.args.self.high _ c.len-2.ensures in omega arith

pub returns : goal.returns
returns c = states_count c.args.self.low c.args.self.high _ _ c.len.ensures c.len-2.ensures
