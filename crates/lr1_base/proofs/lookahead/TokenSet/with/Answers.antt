use mathlib.Core.Path.{sym, ap, ◌∙◌}
use Prim.Native.Nat.{ℕ}
use Rattle.lr1_base.specs.lookahead.Tokens.{has}
use Rattle.lr1_base.proofs.lookahead.Laws.{has_with, with_no}
use Rattle.lr1_base.proofs.lookahead.Words.{with_shifted}
use Rattle.lr1_base.proofs.lookahead.TokenSet.with.Goals as goal

pub returns-then-token-lt-LIMIT : goal.returns-then-token-lt-LIMIT
returns-then-token-lt-LIMIT c =
    let e = with_shifted c.args.self.0 c.args.token c.if-token-lt-LIMIT.true in
    record { is = e; members = λ k. ap (λ (s : ℕ). has s k) e ∙ has_with c.args.self.0 c.args.token k }

pub returns-else-token-lt-LIMIT : goal.returns-else-token-lt-LIMIT
returns-else-token-lt-LIMIT c =
    let e = sym (with_no c.args.self.0 c.args.token c.if-token-lt-LIMIT.false) in
    record { is = e; members = λ k. ap (λ (s : ℕ). has s k) e ∙ has_with c.args.self.0 c.args.token k }
