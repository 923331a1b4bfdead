use Rattle.std.proofs.Common.{◌≡◌, ℕ, true, false, Option, Some, None, is_some, MatchOption, sym, ◌∙◌}
use native.Mathlib.Omega.{arith}
use Rattle.table_rewrite.proofs.start_production.Wanted.{wanted-none, wanted_two, wanted_one}
use Rattle.table_rewrite.proofs.start_production.own_start.Goals as goal
use Rattle.table_rewrite.proofs.start_production.own_start.Goals.{else-is_none-via-then-is_none+else-not-stands_in, else-is_none-via-else-is_none}

told-some : (o : Option ℕ) (P : Type 0) (Q : ℕ → Type 0) → MatchOption o P Q → is_some o ≡ true → (q : ℕ) × Q q
told-some (Some x) P Q m e = (x, m)
told-some None P Q m e = absurd (cc)

told-none : (o : Option ℕ) (P : Type 0) (Q : ℕ → Type 0) → MatchOption o P Q → is_some o ≡ false → P
told-none (Some x) P Q m e = absurd (cc)
told-none None P Q m e = m

pub returns-in_err-first : goal.returns-in_err-first
returns-in_err-first c = λ U P. rw c.from_residual.ensures (sym (wanted-none U _ _ _ _ P (sym c.in_err-first.ensures) (omega arith)))

pub returns-then-not-stands_in : goal.returns-then-not-stands_in
returns-then-not-stands_in c = λ U P.
    let q = told-none _ _ _ c.next_owned-2.ensures c.if-is_none.ensures in
    (sym (wanted_one U _ _ _ _ P (sym c.in_ok-first.ensures.1) c.in_ok-first.ensures.0 _ (sym q) _ (omega arith) c.stands_in.ensures) ∙ c.if-not-stands_in.true, sym c.in_ok-first.ensures.1)

pub returns-else-is_none : goal.returns-else-is_none
returns-else-is_none c = λ U P. elim c.else-is_none.branch [
  | else-is_none-via-then-is_none+else-not-stands_in w ↦
      let q = told-none _ _ _ c.next_owned-2.ensures w.if-is_none.ensures in
      sym (wanted_one U _ _ _ _ P (sym c.in_ok-first.ensures.1) c.in_ok-first.ensures.0 _ (sym q) _ (omega arith) w.stands_in.ensures) ∙ w.if-not-stands_in.false
  | else-is_none-via-else-is_none w ↦
      let q = told-some _ _ _ c.next_owned-2.ensures w.if-is_none.ensures in
      sym (wanted_two U _ _ _ _ P (sym c.in_ok-first.ensures.1) c.in_ok-first.ensures.0 _ (sym q.1.1) q.1.0)
]
