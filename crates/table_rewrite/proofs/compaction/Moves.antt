-- The reached records of an accepted table and their new numbers; what it is for a table u to be t with its reached records moved.
use mathlib.Core.Path.{◌≡◌, refl}
use mathlib.Core.Bool.{Bool, true, false, ◌||◌}
use mathlib.Core.List.{List}
use Prim.Native.Nat.{ℕ, ◌+◌, ◌*◌, ◌≤◌, ◌<◌}
use native.Mathlib.Omega.{arith}
use lib.ListN.{length}
use borrow.Author.Tests.{ne_eqb}
use Rattle.table.specs.Words.{word_at, records, states, productions, state_area, production_area, loose, loose_records, against}
use Rattle.table.specs.Refusals.{is_state, as_symbol, as_item, as_edge}
use Rattle.table.specs.Reached.{head, next}
use Rattle.table.proofs.Chains.{or_left, or_right, good_of}
use Rattle.table.proofs.Reached.{reached-loose, reached-symbol, reached-item, reached_edge}
use Rattle.table.proofs.Accepted.{Accepts, areas_of, symbol-head, item-head, edge_head, symbol-next, item-next, edge_next}
use Rattle.table_rewrite.specs.compaction.Compaction.{reached, rank, moved, count_of}
use Rattle.table_rewrite.proofs.compaction.Ranks.{rank_rises}

pub or-which {ℓ} : {P : Type ℓ} (a b : Bool) → (a ≡ true → P) → (b ≡ true → P) → a || b ≡ true → P
or-which true b f g e = f refl
or-which false b f g e = g e

module _ (t : List ℕ) where
  -- reached as one of the three
  pub by_kind {ℓ} : {P : Type ℓ} (x : ℕ) → (as_symbol t x ≡ true → P) → (as_item t x ≡ true → P) → (as_edge t x ≡ true → P) → reached t x ≡ true → P
  unfolding reached
  by_kind x f g h e = or-which (as_symbol t x) (as_item t x || as_edge t x) f (or-which (as_item t x) (as_edge t x) g h) e

  pub as_symbol_lem : (x : ℕ) → as_symbol t x ≡ true → reached t x ≡ true
  unfolding reached
  as_symbol_lem x e = or_left _ _ e

  pub as_item_lem : (x : ℕ) → as_item t x ≡ true → reached t x ≡ true
  unfolding reached
  as_item_lem x e = or_right (as_symbol t x) _ (or_left _ _ e)

  pub as_edge_lem : (x : ℕ) → as_edge t x ≡ true → reached t x ≡ true
  unfolding reached
  as_edge_lem x e = or_right (as_symbol t x) _ (or_right (as_item t x) _ e)

  -- a reached record is loose
  pub reached-place : (x : ℕ) → reached t x ≡ true → (loose t ≤ x) × (x < records t)
  reached-place x = by_kind x (λ e. reached-loose ((reached-symbol t x).0 e)) (λ e. reached-loose ((reached-item t x).0 e)) (λ e. reached-loose ((reached_edge t x).0 e))

  -- new numbers
  pub moved-zero : moved t 0 ≡ 0
  unfolding moved
  moved-zero = refl

  pub moved-some : (x : ℕ) → (x ≡ 0 → ⊥) → moved t x ≡ loose t + rank t x
  unfolding moved
  moved-some x ne = rw (ne_eqb x 0 ne, moved)

  pub reached-some : (x : ℕ) → reached t x ≡ true → x ≡ 0 → ⊥
  reached-some x e z = let p = reached-place x e in let l = areas_of t in omega (arith, p.0)

  pub moved_is : (x : ℕ) → reached t x ≡ true → moved t x ≡ loose t + rank t x
  moved_is x e = moved-some x (reached-some x e)

  pub moved_inside : (x : ℕ) → reached t x ≡ true → loose t ≤ moved t x
  moved_inside x e = let m = moved_is x e in omega arith

  pub moved_rises : (x y : ℕ) → reached t x ≡ true → reached t y ≡ true → x < y → moved t x < moved t y
  unfolding rank
  moved_rises x y e f h = let m = moved_is x e in let n = moved_is y f in let r = rank_rises (reached t) x y e h in omega arith

  pub moved_early : (x : ℕ) → reached t x ≡ true → moved t x < count_of t
  unfolding rank count_of
  moved_early x e = let m = moved_is x e in let p = reached-place x e in let r = rank_rises (reached t) x (records t) e p.1 in omega arith

  module _ (A : Accepts t) where
    pub reached-next : (x : ℕ) → reached t x ≡ true → against (loose_records t) x (word_at t x 0) ≡ false
    reached-next x e =
        let p = reached-place x e in
        by_kind x (λ k. symbol-next t A x p.1 k) (λ k. item-next t A x p.1 k) (λ k. edge_next t A x p.1 k) e

    pub reached-closed : (x : ℕ) → reached t x ≡ true → (word_at t x 0 ≡ 0 → ⊥) → reached t (word_at t x 0) ≡ true
    reached-closed x e ne =
        let g = good_of (loose_records t) x (word_at t x 0) (reached-next x e) ne in
        by_kind x
        (λ k. as_symbol_lem (word_at t x 0) ((reached-symbol t (word_at t x 0)).1 (next x (word_at t x 0) ((reached-symbol t x).0 k) refl ne g)))
        (λ k. as_item_lem (word_at t x 0) ((reached-item t (word_at t x 0)).1 (next x (word_at t x 0) ((reached-item t x).0 k) refl ne g)))
        (λ k. as_edge_lem (word_at t x 0) ((reached_edge t (word_at t x 0)).1 (next x (word_at t x 0) ((reached_edge t x).0 k) refl ne g)))
        e

    -- a head that is not 0 is reached
    pub symbol_headed : (p : ℕ) → p < productions t → (word_at t (production_area t + p) 1 ≡ 0 → ⊥) → reached t (word_at t (production_area t + p) 1) ≡ true
    symbol_headed p h ne = as_symbol_lem _ ((reached-symbol t _).1 (head p _ h refl ne (good_of (loose_records t) _ _ (symbol-head t A p h) ne)))

    pub item_headed : (s : ℕ) → s < states t → (word_at t (state_area t + s) 0 ≡ 0 → ⊥) → reached t (word_at t (state_area t + s) 0) ≡ true
    item_headed s h ne = as_item_lem _ ((reached-item t _).1 (head s _ h refl ne (good_of (loose_records t) _ _ (item-head t A s h) ne)))

    pub edge_headed : (s : ℕ) → s < states t → (word_at t (state_area t + s) 1 ≡ 0 → ⊥) → reached t (word_at t (state_area t + s) 1) ≡ true
    edge_headed s h ne = as_edge_lem _ ((reached_edge t _).1 (head s _ h refl ne (good_of (loose_records t) _ _ (edge_head t A s h) ne)))

-- u is t with its reached records moved; what else stands behind the areas is not said
pub record MovedTo (t u : List ℕ) : Type 0 where
  pub long : length u ≡ 4 * records u
  pub enough : count_of t ≤ records u
  pub few : records u ≤ records t
  pub stays : (r : ℕ) → r < loose t → is_state t r ≡ false → word_at u r 0 ≡ word_at t r 0
  pub items : (r : ℕ) → r < loose t → is_state t r ≡ true → word_at u r 0 ≡ moved t (word_at t r 0)
  pub stays_one : (r : ℕ) → r < state_area t → word_at u r 1 ≡ word_at t r 1
  pub heads : (r : ℕ) → state_area t ≤ r → r < loose t → word_at u r 1 ≡ moved t (word_at t r 1)
  pub stays_two : (r : ℕ) → r < loose t → word_at u r 2 ≡ word_at t r 2
  pub stays_three : (r : ℕ) → r < loose t → word_at u r 3 ≡ word_at t r 3
  pub next : (x : ℕ) → reached t x ≡ true → word_at u (moved t x) 0 ≡ moved t (word_at t x 0)
  pub one : (x : ℕ) → reached t x ≡ true → word_at u (moved t x) 1 ≡ word_at t x 1
  pub two : (x : ℕ) → reached t x ≡ true → word_at u (moved t x) 2 ≡ word_at t x 2
  pub three : (x : ℕ) → reached t x ≡ true → word_at u (moved t x) 3 ≡ word_at t x 3
