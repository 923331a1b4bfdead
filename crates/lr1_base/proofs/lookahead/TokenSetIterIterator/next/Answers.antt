use Rattle.std.proofs.Common.{ap, ◌∙◌, arith, length}
use Rattle.lr1_base.specs.lookahead.Tokens.{members}
use Rattle.lr1_base.proofs.lookahead.Members.{members-none}
use Rattle.lr1_base.proofs.lookahead.Words.{next_le, next_token}
use Rattle.lr1_base.proofs.lookahead.TokenSetIterIterator.next.Goals as goal

pub returns-then-word-eq0-clause-steps : goal.returns-then-word-eq0-clause-steps
returns-then-word-eq0-clause-steps c = let e = ap members c.if-word-eq0.true ∙ members-none in (e, e)

pub overflow_sub-self : goal.overflow_sub-self
overflow_sub-self c = next_le c.args.self.now.0 c.if-word-eq0.false (omega arith)

pub returns-clause-steps : goal.returns-clause-steps
returns-clause-steps c = next_token c.args.self.now.0 c.if-word-eq0.false (omega arith)

pub returns-clause-goes : goal.returns-clause-goes
returns-clause-goes c =
    let fewer = ap length (next_token c.args.self.now.0 c.if-word-eq0.false (omega arith)) in
    record { on = λ f. (tt, tt, omega (arith, fewer)); keeps = tt; rests = λ f. tt }
