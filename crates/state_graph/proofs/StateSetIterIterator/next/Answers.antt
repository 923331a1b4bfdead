use Rattle.std.proofs.Common.{ap, length, arith}
use Rattle.state_graph.proofs.States.{token_small, next_low, next_high, next-done}
use Rattle.state_graph.proofs.StateSetIterIterator.next.Goals as goal

pub returns-in-Some-clause-steps : goal.returns-in-Some-clause-steps
returns-in-Some-clause-steps c = next_low _ _ _ _ (rw c.iter-low.ensures at c.in-Some.ensures.steps)

pub returns-in-Some-clause-goes : goal.returns-in-Some-clause-goes
returns-in-Some-clause-goes c =
    let fewer = ap length (next_low _ c.args.self.now.0.high _ _ (rw c.iter-low.ensures at c.in-Some.ensures.steps)) in
    record { on = λ f. (tt, tt, omega (arith, fewer)); keeps = tt; rests = λ f. tt }

pub overflow_add-result : goal.overflow_add-result
overflow_add-result c = omega (arith, token_small _ _ _ c.in-Some-next.ensures.steps)

pub returns-in-Some-next-clause-steps : goal.returns-in-Some-next-clause-steps
returns-in-Some-next-clause-steps c = next_high _ _ _ _ (rw c.iter-low.ensures at c.in_default.ensures.steps.0) (rw c.iter-high.ensures at c.in-Some-next.ensures.steps)

pub returns-in-Some-next-clause-goes : goal.returns-in-Some-next-clause-goes
returns-in-Some-next-clause-goes c =
    let fewer = ap length (next_high _ _ _ _ (rw c.iter-low.ensures at c.in_default.ensures.steps.0) (rw c.iter-high.ensures at c.in-Some-next.ensures.steps)) in
    record { on = λ f. (tt, tt, omega (arith, fewer)); keeps = tt; rests = λ f. tt }

pub returns-clause-steps : goal.returns-clause-steps
returns-clause-steps c =
    let e = next-done _ _ (rw c.iter-low.ensures at c.in_default.ensures.steps.0) (rw c.iter-high.ensures at c.in_default-next.ensures.steps.0) in
    (e, e)
