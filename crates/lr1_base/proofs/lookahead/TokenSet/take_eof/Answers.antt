use Rattle.std.proofs.Common.{sym, ap, ◌∙◌, ℕ, arith}
use Rattle.lr1_base.specs.lookahead.Tokens.{has}
use Rattle.lr1_base.proofs.lookahead.Laws.{has-below, has-without, without_no}
use Rattle.lr1_base.proofs.lookahead.Words.{shifted_le, off}
use Rattle.lr1_base.proofs.lookahead.TokenSet.take_eof.Goals as goal

pub overflow_shl-self : goal.overflow_shl-self
overflow_shl-self c = has-below c.args.self.now.0 64 c.args.terminals (omega (arith, c.well_formed)) (sym c.if-there.ensures)

pub overflow_sub-self : goal.overflow_sub-self
overflow_sub-self c = shifted_le c.args.self.now.0 c.args.terminals (omega (arith, c.well_formed)) (sym c.if-there.ensures)

pub returns-then-there-clause-is : goal.returns-then-there-clause-is
returns-then-there-clause-is c = off c.args.self.now.0 c.args.terminals (omega (arith, c.well_formed)) (sym c.if-there.ensures)

pub returns-then-there-clause-members : goal.returns-then-there-clause-members
returns-then-there-clause-members c k =
    ap (λ (s : ℕ). has s k) (off c.args.self.now.0 c.args.terminals (omega (arith, c.well_formed)) (sym c.if-there.ensures))
    ∙ has-without c.args.self.now.0 c.args.terminals k

pub returns-else-there-clause-is : goal.returns-else-there-clause-is
returns-else-there-clause-is c = sym (without_no c.args.self.now.0 c.args.terminals (sym c.if-there.ensures))

pub returns-else-there-clause-members : goal.returns-else-there-clause-members
returns-else-there-clause-members c k =
    ap (λ (s : ℕ). has s k) (sym (without_no c.args.self.now.0 c.args.terminals (sym c.if-there.ensures)))
    ∙ has-without c.args.self.now.0 c.args.terminals k
