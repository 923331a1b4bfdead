-- `action_examples`: the side of the conflict's action, and by `reduced` the other side (conflict_sides/specs/conflict/Sides).
use Rattle.std.specs.Prelude.{◌&&◌, ltb, leb, length, Result, ◌≡◌, ℕ, zero, suc, Bool, true, false, eqb, List}
use native.Mathlib.Omega.{arith}
use mathlib.Core.Path.{refl, sym, subst}
use borrow.Author.Tests.{ne_eqb}
use Rattle.lr1_base.proofs.laws.Bools.{and_left, and_right}
use Rattle.lr1_base.specs.repr.Meaning.{Table}
use Rattle.conflict_sides.specs.declared.conflict.Conflict.{Conflict}
use Rattle.conflict_sides.specs.conflict.Judge.{Example}
use Rattle.conflict_sides.specs.conflict.Outcome.{operand_fits, place_is_fit, conflict_fits}
use Rattle.conflict_sides.specs.conflict.Sides.{shift_side, reduce_side, action_side_of}
use Rattle.conflict_sides.specs.declared.examples.Gathered.{Gathered}
use Rattle.lr1_base.specs.declared.repr.refusals.Refusal.{Refusal}
use Rattle.conflict_sides.specs.examples.Gathers.{shift_made, reduce_made, made_by, action_made, is_shift, reduced, SideKept, Sided}

module _ (T : Table) (s o token : ℕ) (r : Result Gathered Refusal) (kept prints : List ℕ) where
  by_shift : (a : ℕ) → a ≡ 0 → Sided T true (shift_made T s) r kept prints (shift_side T s token) → Sided T (eqb a 0) (made_by T s a o token) r kept prints (action_side_of T s a o token)
  unfolding made_by action_side_of
  by_shift zero e S = S
  by_shift (suc a) e S = absurd (omega arith)

  by_reduce : (a : ℕ) → (a ≡ 0 → ⊥) → Sided T false (reduce_made T s o token) r kept prints (reduce_side T s o token) → Sided T (eqb a 0) (made_by T s a o token) r kept prints (action_side_of T s a o token)
  unfolding made_by action_side_of
  by_reduce zero ne S = absurd (ne refl)
  by_reduce (suc a) ne S = subst (λ (b : Bool). Sided T b (reduce_made T s o token) r kept prints (reduce_side T s o token)) (sym (ne_eqb (suc a) 0 ne)) S

module _ (T : Table) (c : Conflict) (r : Result Gathered Refusal) (kept prints : List ℕ) where
  pub action_shift : c.action ≡ 0 → Sided T true (shift_made T c.state.0) r kept prints (shift_side T c.state.0 c.token)
      → Sided T (is_shift c) (action_made T c) r kept prints (action_side_of T c.state.0 c.action c.operand c.token)
  unfolding is_shift action_made
  action_shift e S = by_shift T c.state.0 c.operand c.token r kept prints c.action e S

  pub action_reduce : (c.action ≡ 0 → ⊥) → Sided T false (reduce_made T c.state.0 c.operand c.token) r kept prints (reduce_side T c.state.0 c.operand c.token)
      → Sided T (is_shift c) (action_made T c) r kept prints (action_side_of T c.state.0 c.action c.operand c.token)
  unfolding is_shift action_made
  action_reduce ne S = by_reduce T c.state.0 c.operand c.token r kept prints c.action ne S

-- the other side

module _ (T : Table) (c : Conflict) where
  pub reduced_fits : conflict_fits T c ≡ true → conflict_fits T (reduced c) ≡ true
  unfolding conflict_fits place_is_fit operand_fits
  reduced_fits f =
      let place = and_left (place_is_fit T c) (leb c.token T.terminals) f in
      let token = and_right (place_is_fit T c) (leb c.token T.terminals) f in
      let state = and_left (ltb c.state.0 (length T.states)) (ltb c.production.0 (length T.productions) && operand_fits T c.action c.operand) place in
      let production = and_left (ltb c.production.0 (length T.productions)) (operand_fits T c.action c.operand) (and_right (ltb c.state.0 (length T.states)) (ltb c.production.0 (length T.productions) && operand_fits T c.action c.operand) place) in
      rw (state, production, token)

  pub reduced-kept : (ys : List Example) (kept prints : List ℕ) → SideKept T false (reduce_made T c.state.0 c.production.0 c.token) ys kept prints → SideKept T (is_shift (reduced c)) (action_made T (reduced c)) ys kept prints
  unfolding is_shift action_made made_by
  reduced-kept ys kept prints K = K

  pub reduced-sided : (r : Result Gathered Refusal) (kept prints : List ℕ) → Sided T (is_shift (reduced c)) (action_made T (reduced c)) r kept prints (action_side_of T c.state.0 1 c.production.0 c.token)
      → Sided T false (reduce_made T c.state.0 c.production.0 c.token) r kept prints (reduce_side T c.state.0 c.production.0 c.token)
  unfolding is_shift action_made made_by action_side_of
  reduced-sided r kept prints S = S
