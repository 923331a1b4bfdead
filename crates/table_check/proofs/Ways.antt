-- The ways through the tests of one record, one law for each return.
use mathlib.Core.Path.{◌≡◌, sym, ap, ◌∙◌}
use mathlib.Core.Bool.{Bool, true, false, ◌||◌}
use mathlib.Core.List.{List}
use Prim.Native.Nat.{ℕ, ◌+◌, ◌-◌, min, ◌≤◌, ◌<◌}
use native.Mathlib.Omega.{arith}
use lib.ListN.{length, get_or}
use lib.Dec.{eqb}
use borrow.Author.Tests.{eq-eqb, ne_eqb, lt-ltb, le-ltb}
use Rattle.lr1_base.specs.repr.Lists.{below, occurrences, joined}
use Rattle.lr1_base.proofs.repr.Lists.{cases}
use Rattle.table.specs.Words.{word_at, productions, production_area, loose_records, production_records, names, against}
use Rattle.table.specs.Decoded.{production_chain, symbol_chain}
use Rattle.table_check.specs.Rows.{number_of_row}
use Rattle.table_check.specs.declared.fault.Row.{Row}
use Rattle.table_check.specs.declared.fault.Row.TheVariants.{Chain, Owner, TooLong, Symbol, Target, Spare}
use Rattle.table_check.specs.Marks.{Held, Lengths}
use Rattle.table_check.specs.Known.{AreasOf, area}
use Rattle.table_check.specs.Faults.{choose, index_bad, fault_of_production, fault_of_loose}
use Rattle.table_check.specs.declared.areas.Areas.{Areas}

-- ---- an index that was read, by the areas
module _ (t : List ℕ) (a : Areas) (A : AreasOf t a) where
  pub production_area_lem : area a.productions_at a.loose_at ≡ production_records t
  unfolding production_records
  production_area_lem = rw (A.productions_at, A.loose_at)

  pub loose-area : area a.loose_at a.records ≡ loose_records t
  unfolding loose_records
  loose-area = rw (A.loose_at, A.records)

-- ---- the next index of a loose record, as it was read
module _ (t : List ℕ) (r x : ℕ) (e : x ≡ word_at t r 0) (s i d : Bool) where
  pub next_named : names (loose_records t) r x ≡ true → index_bad t r s i d ≡ false
  unfolding index_bad against
  next_named m = rw (← e, m) (cases (s || (i || d)) (λ a. rw a (cases (eqb x 0) (λ b. rw b) (λ b. rw b))) (λ a. rw a))

  pub next_end : x ≡ 0 → index_bad t r s i d ≡ false
  unfolding index_bad against
  next_end h = rw (← e, h) (cases (s || (i || d)) (λ a. rw a) (λ a. rw a))

  pub next_unasked : (s || (i || d)) ≡ false → index_bad t r s i d ≡ false
  unfolding index_bad
  next_unasked a = rw a

  pub next_bad : names (loose_records t) r x ≡ false → (x ≡ 0 → ⊥) → (s || (i || d)) ≡ true → 3 ≡ fault_of_loose t r s i d
  unfolding fault_of_loose choose index_bad against
  next_bad m h a = rw (← e, m, ne_eqb x 0 h, a)

-- ---- a production, with how often it is held and how long it is
held-once : (n : ℕ) → min 2 n ≡ 1 → n ≡ 1
held-once n e = omega arith

module _ (t : List ℕ) (r : ℕ) where
  pub production_1 : against (production_records t) r (word_at t r 0) ≡ true → 3 ≡ fault_of_production t r
  unfolding fault_of_production choose
  production_1 i = rw i

  module _ (i : against (production_records t) r (word_at t r 0) ≡ false) where
    pub production_2 : against (loose_records t) r (word_at t r 1) ≡ true → 3 ≡ fault_of_production t r
    unfolding fault_of_production choose
    production_2 j = rw (i, j)

    module _ (j : against (loose_records t) r (word_at t r 1) ≡ false) (p : ℕ) (low : production_area t + p ≡ r) (high : p < productions t) (hs : List ℕ) (H : Held t hs) where
      held_is : get_or hs p 0 ≡ min 2 (occurrences r (joined (production_chain t) (below (word_at t 0 0))))
      held_is = rw low at (H p high)

      pub production_3 : (get_or hs p 0 ≡ 1 → ⊥) → 4 ≡ fault_of_production t r
      unfolding fault_of_production choose
      production_3 ne =
          let h : occurrences r (joined (production_chain t) (below (word_at t 0 0))) ≡ 1 → ⊥ = λ e. ne (held_is ∙ ap (min 2) e) in
          rw (i, j, ne_eqb _ _ h)

      pub production_4 : get_or hs p 0 ≡ 1 → (ls : List ℕ) → Lengths t ls → 16 < get_or ls p 0 → 5 ≡ fault_of_production t r
      unfolding fault_of_production choose
      production_4 e ls L l =
          let o = held-once _ (sym held_is ∙ e) in
          let q = L p high in
          let d : p ≡ r - production_area t = omega arith in
          let n : 16 < length (symbol_chain t p) = omega arith in
          rw (i, j, eq-eqb _ _ o, ← d, lt-ltb _ _ n)

      pub production_5 : get_or hs p 0 ≡ 1 → (ls : List ℕ) → Lengths t ls → get_or ls p 0 ≤ 16 → 0 ≡ fault_of_production t r
      unfolding fault_of_production choose
      production_5 e ls L l =
          let o = held-once _ (sym held_is ∙ e) in
          let q = L p high in
          let d : p ≡ r - production_area t = omega arith in
          let n : length (symbol_chain t p) ≤ 16 = omega arith in
          rw (i, j, eq-eqb _ _ o, ← d, le-ltb _ _ n)

-- a row of the code is no 0
pub some_row : (row : Row) → number_of_row row ≡ 0 → ⊥
some_row Chain e = omega arith
some_row Owner e = omega arith
some_row TooLong e = omega arith
some_row Symbol e = omega arith
some_row Target e = omega arith
some_row Spare e = omega arith
