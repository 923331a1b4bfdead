-- A table with no gaps stays as it is: its reached records are those from the end of the areas up to k, and all behind k is 0.
use mathlib.Core.Path.{◌≡◌, sym, ap, ◌∙◌}
use mathlib.Core.Bool.{true, false}
use mathlib.Core.List.{List}
use Prim.Native.Nat.{ℕ, ◌+◌, ◌-◌, ◌≤◌, ◌<◌}
use native.Mathlib.Omega.{arith}
use lib.Dec.{eqb, ltb}
use borrow.Author.Tests.{eqb-true, eqb-false, ltb-true, ltb-false, leb-true}
use Rattle.lr1_base.proofs.repr.Lists.{cases, clash}
use Rattle.table.specs.Words.{word_at, records, states, productions, state_area, production_area, loose}
use Rattle.table.specs.Refusals.{is_state}
use Rattle.table.proofs.Accepted.{Accepts, areas_of}
use Rattle.table.specs.Quads.{no_quad, quad_at}
use Rattle.table.proofs.Quads.{made_quad}
use Rattle.table_rewrite.specs.compaction.Compaction.{reached, rank, moved, count_of, area_quad, compact_quad}
use Rattle.table_rewrite.proofs.compaction.Ranks.{rank_block, rank_flat}
use Rattle.table_rewrite.proofs.compaction.Moves.{reached-place, reached-closed, symbol_headed, item_headed, edge_headed, moved-zero, moved_is}
use Rattle.table_rewrite.proofs.compaction.Placed.{quad_area, quad_loose, quad_freed, area_stays, area_items, area_one, area_heads, area_two, area_three, loose-words}
use Rattle.lr1_base.proofs.laws.Bools.{and-true}

-- no gaps, and nothing behind k
pub record Settled (u : List ℕ) (k : ℕ) : Type 0 where
  pub from : loose u ≤ k
  pub past : k ≤ records u
  pub full : (r : ℕ) → loose u ≤ r → r < k → reached u r ≡ true
  pub none : (r : ℕ) → k ≤ r → reached u r ≡ false
  pub freed : (r : ℕ) → k ≤ r → r < records u → quad_at u r ≡ no_quad

module _ (u : List ℕ) (A : Accepts u) (k : ℕ) (S : Settled u k) where
  before : (x : ℕ) → x < loose u → reached u x ≡ false
  before x h = cases (reached u x) (λ e. let p = reached-place u x e in absurd (omega (arith, p.0))) (λ e. e)

  rank_of_lem : (r : ℕ) → loose u ≤ r → r ≤ k → loose u + rank u r ≡ r
  unfolding rank
  rank_of_lem r h l = rank_block (reached u) (loose u) k r before S.full h l

  pub settled_count : count_of u ≡ k
  unfolding count_of rank
  settled_count =
      let f = S.from in
      let b = rank_block (reached u) (loose u) k k before S.full f (omega arith) in
      let e = rank_flat (reached u) k (records u) S.none S.past in
      omega arith

  below_end : (x : ℕ) → reached u x ≡ true → x < k
  below_end x e = cases (ltb x k) (λ q. ltb-true x k q) (λ q. clash (reached u x) e (S.none x (ltb-false x k q)))

  -- nothing moves
  pub settled_moved : (x : ℕ) → reached u x ≡ true → moved u x ≡ x
  settled_moved x e =
      let p = reached-place u x e in
      let b = below_end x e in
      moved_is u x e ∙ rank_of_lem x p.0 (omega arith)

  index : (x : ℕ) → ((x ≡ 0 → ⊥) → reached u x ≡ true) → moved u x ≡ x
  index x h =
      cases (eqb x 0)
      (λ q. let z = eqb-true x 0 q in ap (moved u) z ∙ moved-zero u ∙ sym z)
      (λ q. settled_moved x (h (eqb-false x 0 q)))

  state_number : (r : ℕ) → is_state u r ≡ true → (s : ℕ) × (s < states u) × (r ≡ state_area u + s)
  unfolding is_state
  state_number r e =
      let p = and-true _ _ e in
      let a = leb-true (state_area u) r p.0 in
      let b = ltb-true r (production_area u) p.1 in
      let d = areas_of u in
      (r - state_area u, omega arith, omega arith)

  head-zero : (r : ℕ) → is_state u r ≡ true → moved u (word_at u r 0) ≡ word_at u r 0
  head-zero r e = let w = state_number r e in rw w.2 (index (word_at u (state_area u + w.0) 0) (item_headed u A w.0 w.1))

  at_edge : (s : ℕ) → s < states u → moved u (word_at u (state_area u + s) 1) ≡ word_at u (state_area u + s) 1
  at_edge s h = index (word_at u (state_area u + s) 1) (edge_headed u A s h)

  at_symbol : (p : ℕ) → p < productions u → moved u (word_at u (production_area u + p) 1) ≡ word_at u (production_area u + p) 1
  at_symbol p h = index (word_at u (production_area u + p) 1) (symbol_headed u A p h)

  head_one : (r : ℕ) → state_area u ≤ r → r < loose u → moved u (word_at u r 1) ≡ word_at u r 1
  head_one r h l =
      let d = areas_of u in
      cases (ltb r (production_area u))
      (λ q.
      let b = ltb-true r (production_area u) q in
      let z : r ≡ state_area u + (r - state_area u) = omega arith in
      let c : r - state_area u < states u = omega arith in
      ap (λ (q : ℕ). moved u (word_at u q 1)) z ∙ at_edge (r - state_area u) c ∙ sym (ap (λ (q : ℕ). word_at u q 1) z))
      (λ q.
      let b = ltb-false r (production_area u) q in
      let z : r ≡ production_area u + (r - production_area u) = omega arith in
      let c : r - production_area u < productions u = omega arith in
      ap (λ (q : ℕ). moved u (word_at u q 1)) z ∙ at_symbol (r - production_area u) c ∙ sym (ap (λ (q : ℕ). word_at u q 1) z))

  one_of : (r : ℕ) → r < loose u → (area_quad u r).one ≡ word_at u r 1
  one_of r h =
      cases (ltb r (state_area u))
      (λ q. area_one u r (ltb-true r (state_area u) q))
      (λ q. let b = ltb-false r (state_area u) q in area_heads u r b ∙ head_one r b h)

  next_of : (r : ℕ) → (area_quad u r).next ≡ word_at u r 0
  next_of r = cases (is_state u r) (λ e. area_items u r e ∙ head-zero r e) (λ e. area_stays u r e)

  area_settled : (r : ℕ) → r < loose u → compact_quad u r ≡ quad_at u r
  area_settled r h = quad_area u r h ∙ made_quad _ _ _ _ _ _ _ _ (next_of r) (one_of r h) (area_two u r) (area_three u r)

  loose_settled : (r : ℕ) → reached u r ≡ true → compact_quad u r ≡ quad_at u r
  loose_settled r e =
      let w = loose-words u r in
      sym (ap (compact_quad u) (settled_moved r e))
      ∙ quad_loose u r e
      ∙ made_quad _ _ _ _ _ _ _ _ (w.0 ∙ index (word_at u r 0) (reached-closed u A r e)) w.1 w.2 w.3

  pub settled_quad : (r : ℕ) → r < records u → compact_quad u r ≡ quad_at u r
  settled_quad r h =
      cases (ltb r (loose u))
      (λ q. area_settled r (ltb-true r (loose u) q))
      (λ q.
      let b = ltb-false r (loose u) q in
      cases (ltb r k)
      (λ p. loose_settled r (S.full r b (ltb-true r k p)))
      (λ p.
      let c = ltb-false r k p in
      let n = settled_count in
      quad_freed u r (omega arith) ∙ sym (S.freed r c h)))
