-- The answer is the number of records of the areas and of the loose records in use (specs/compaction/InUse).
use mathlib.Core.Path.{◌≡◌, refl, sym, ap, ◌∙◌}
use mathlib.Core.Bool.{Bool, true, ◌&&◌}
use mathlib.Core.Logic.{inl, inr, ◌↔◌, ⊎_elim}
use mathlib.Core.List.{List}
use Prim.Native.Nat.{ℕ, ◌+◌, ◌<◌}
use native.Mathlib.Omega.{arith}
use lib.ListN.{length, get_or}
use lib.Dec.{ltb}
use borrow.Author.Tests.{ltb-true, ltb-false, lt-ltb}
use Rattle.lr1_base.specs.repr.Reply.{answered}
use Rattle.lr1_base.specs.repr.Lists.{below, mem, keep}
use Rattle.lr1_base.proofs.repr.Lists.{cases, mem-keep, mem_below}
use Rattle.table.specs.Words.{records, nonterminals, states, productions, state_area, production_area, loose}
use Rattle.table.proofs.Reached.{reached-symbol, reached-item, reached_edge}
use Rattle.table_rewrite.specs.compaction.Compaction.{reached, rank_of, rank, kept, count_of}
use Rattle.table_rewrite.specs.compaction.InUse.{InUse, AllInUse}
use Rattle.table_rewrite.specs.compaction.Outcome.{compact_of}
use Rattle.table_rewrite.proofs.compaction.Ranks.{rank_up, rank-onto, kept_at}
use Rattle.table_rewrite.proofs.compaction.Moves.{by_kind, as_symbol_lem, as_item_lem, as_edge_lem, reached-place}
use Rattle.table_rewrite.proofs.compaction.Called.{left}
use Rattle.lr1_base.proofs.laws.Bools.{and-true}

module _ (t : List ℕ) where
  -- `reached` decides it
  pub reached_in_use : (x : ℕ) → (reached t x ≡ true) ↔ InUse t x
  reached_in_use x = (
    by_kind t x (λ e. inl ((reached-symbol t x).0 e)) (λ e. inr (inl ((reached-item t x).0 e))) (λ e. inr (inr ((reached_edge t x).0 e))),
    ⊎_elim (λ R. as_symbol_lem t x ((reached-symbol t x).1 R)) (⊎_elim (λ R. as_item_lem t x ((reached-item t x).1 R)) (λ R. as_edge_lem t x ((reached_edge t x).1 R))),
  )

  kept-mem : (x : ℕ) → mem x (kept t) ≡ (ltb x (records t) && reached t x)
  unfolding kept
  kept-mem x = mem-keep (reached t) x (below (records t)) ∙ ap (λ (b : Bool). b && reached t x) (mem_below x (records t))

  kept_in : (x : ℕ) → reached t x ≡ true → mem x (kept t) ≡ true
  kept_in x e = let p = reached-place t x e in kept-mem x ∙ rw (lt-ltb x (records t) p.1, e)

  -- element i is the reached record that i lie before
  element : (i : ℕ) → i < length (kept t) → (x : ℕ) × (get_or (kept t) i 0 ≡ x) × (rank t x ≡ i)
  unfolding kept rank rank_of
  element i h =
      let w = rank-onto (reached t) (records t) i h in
      (w.0, sym (ap (λ (k : ℕ). get_or (keep (reached t) (below (records t))) k 0) w.3) ∙ kept_at (reached t) (records t) w.0 w.2 w.1, w.3)

  rises : (x y : ℕ) → rank t x < rank t y → x < y
  unfolding rank
  rises x y h = cases (ltb x y) (λ q. ltb-true x y q) (λ q. let u = rank_up (reached t) y x (ltb-false x y q) in absurd (omega arith))

  pub kept_in_use : AllInUse t (kept t)
  kept_in_use = record {
    exact = λ x. (
      λ e. (reached_in_use x).0 (and-true (ltb x (records t)) (reached t x) (sym (kept-mem x) ∙ e)).1,
      λ R. kept_in x ((reached_in_use x).1 R),
    );
    ascending = λ i j l h.
        let a = element i (omega arith) in
        let b = element j h in
        let r = rises a.0 b.0 (omega (arith, a.2, b.2)) in
        omega (arith, r, a.1, b.1);
  }

  count_is : count_of t ≡ 1 + nonterminals t + states t + productions t + length (kept t)
  unfolding count_of loose production_area state_area rank rank_of kept
  count_is = refl

-- 1 + N + S + P, and the loose records in use
pub left_count : (t : List ℕ) (n : ℕ) (ws : List ℕ) → compact_of t ≡ record { answer = answered n; table = ws }
    → (xs : List ℕ) × AllInUse t xs × (n ≡ 1 + nonterminals t + states t + productions t + length xs)
left_count t n ws e = (kept t, kept_in_use t, (left t n ws e).count ∙ count_is t)
