-- The two levels of the answer: the least (row, record) over a pass of the records is the first row with an offending record and its least such record.
use mathlib.Core.Path.{◌≡◌, refl, sym, ap, ◌∙◌}
use mathlib.Core.Bool.{Bool, true, false}
use mathlib.Core.List.{List, [], ◌∷◌}
use mathlib.Core.Option.{none, some}
use Prim.Native.Nat.{ℕ, ◌<◌}
use native.Mathlib.Omega.{arith}
use native.Mathlib.Decide.{ℕ_discrete}
use Rattle.lr1_base.specs.repr.Lists.{below, first?}
use Rattle.lr1_base.proofs.repr.Lists.{cases}
use Rattle.lr1_base.proofs.repr.Tests.{first?-nil, first?-yes, first?_no, first?-below_intro}
use Rattle.table.specs.Checked.{Accepted, Refused}
use Rattle.table.specs.Decoded.{or_zero}
use Rattle.table.proofs.Exact.{none_in}
use Rattle.table_check.specs.Faults.{first_by, Best}

-- ---- the lowest row of one record
unfoldable pub lowest : (ℕ → Bool) → List ℕ → ℕ
lowest off ns = or_zero (first? off ns)

-- rows in ascending order, none 0
unfoldable pub Rising : ℕ → List ℕ → Type 0
Rising m [] = Unit
Rising m (n ∷ ns) = (m < n) × Rising n ns

lowest_yes : (off : ℕ → Bool) (n : ℕ) (ns : List ℕ) → off n ≡ true → lowest off (n ∷ ns) ≡ n
unfolding lowest or_zero
lowest_yes off n ns e = ap or_zero (first?-yes off n ns e)

lowest_no : (off : ℕ → Bool) (n : ℕ) (ns : List ℕ) → off n ≡ false → lowest off (n ∷ ns) ≡ lowest off ns
unfolding lowest
lowest_no off n ns e = ap or_zero (first?_no off n ns e)

pub lowest_nil : (off : ℕ → Bool) → lowest off [] ≡ 0
unfolding lowest or_zero
lowest_nil off = ap or_zero (first?-nil off)

-- 0, or above the bound
lowest_above : (off : ℕ → Bool) (m : ℕ) (ns : List ℕ) → Rising m ns → (lowest off ns ≡ 0 → ⊥) → m < lowest off ns
unfolding Rising
lowest_above off m [] h ne = absurd (ne (lowest_nil off))
lowest_above off m (n ∷ ns) h ne =
    cases (off n)
    (λ e. rw (lowest_yes off n ns e) h.0)
    (λ e.
    let r = lowest_above off n ns h.1 (λ z. ne (lowest_no off n ns e ∙ z)) in
    let q = lowest_no off n ns e in
    let l = h.0 in
    omega arith)

-- ---- the answer from the best so far
pub best_start : (f : ℕ → ℕ) → Best f 0 0 0
best_start f = record {
  none = λ e j h. absurd (omega arith);
  within = omega arith;
  inside = λ ne. absurd (ne refl);
  is = λ ne. absurd (ne refl);
  least = λ ne j h. absurd (ne refl);
  early = λ ne j h. absurd (ne refl);
}

-- two that agree on the records passed have the same best
best_agree : (f g : ℕ → ℕ) (r row place : ℕ) → ((j : ℕ) → j < r → f j ≡ g j) → Best f r row place → Best g r row place
best_agree f g r row place a b = record {
  none = λ z j h. sym (a j h) ∙ b.none z j h;
  within = b.within;
  inside = b.inside;
  is = λ ne. sym (a place (b.inside ne)) ∙ b.is ne;
  least = λ ne j h nz. rw (a j h) at (b.least ne j h (λ z. nz (sym (a j h) ∙ z)));
  early = λ ne j h nz. let i = b.inside ne in let l : j < r = omega arith in rw (a j l) at (b.early ne j h (λ z. nz (sym (a j l) ∙ z)));
}

-- ---- the first row over all records
module _ (off : ℕ → ℕ → Bool) (k : ℕ) where
  pub by_some : (n : ℕ) (ns : List ℕ) (r : ℕ) → first? (off n) (below k) ≡ some r → first_by off k (n ∷ ns) ≡ Refused n r
  unfolding first_by
  by_some n ns r e = rw (e, first_by)

  pub by_none : (n : ℕ) (ns : List ℕ) → first? (off n) (below k) ≡ none → first_by off k (n ∷ ns) ≡ first_by off k ns
  unfolding first_by
  by_none n ns e = rw (e, first_by)

  pub by_accepted : (ns : List ℕ) (m : ℕ) → Rising m ns → ((j : ℕ) → j < k → lowest (λ n. off n j) ns ≡ 0) → Accepted ≡ first_by off k ns
  unfolding first_by Rising
  by_accepted [] m u h = refl
  by_accepted (n ∷ ns) m u h =
      by_accepted ns n u.1 (λ j l. sym (lowest_no (λ n. off n j) n ns (no j l)) ∙ h j l) ∙ sym (by_none n ns (none_in (off n) k no))
    where
      no : (j : ℕ) → j < k → off n j ≡ false
      no j l = cases (off n j) (λ e. let q = lowest_yes (λ n. off n j) n ns e in let z = h j l in let g = u.0 in absurd (omega arith)) (λ e. e)

  -- the least (row, record) is the first row's least record
  pub by_refused : (ns : List ℕ) (m row place : ℕ) → Rising m ns → (row ≡ 0 → ⊥) → Best (λ j. lowest (λ n. off n j) ns) k row place → Refused row place ≡ first_by off k ns
  unfolding Rising
  by_refused [] m row place u ne b = absurd (ne (sym (b.is ne) ∙ lowest_nil (λ n. off n place)))
  by_refused (n ∷ ns) m row place u ne b = go (by_refused ns n row place u.1 ne) (ℕ_discrete row n)
    where
      f : ℕ → ℕ
      f j = lowest (λ n. off n j) (n ∷ ns)

      some_n : n ≡ 0 → ⊥
      some_n z = let g = u.0 in omega arith

      hit : (j : ℕ) → off n j ≡ true → f j ≡ n
      hit j e = lowest_yes (λ n. off n j) n ns e

      miss : (j : ℕ) → off n j ≡ false → f j ≡ lowest (λ n. off n j) ns
      miss j e = lowest_no (λ n. off n j) n ns e

      -- the best record meets this row, or its row is a later one
      later : off n place ≡ false → n < row
      later e = let q = miss place e in let w = b.is ne in let l = lowest_above (λ n. off n place) n ns u.1 (λ z. ne (sym w ∙ q ∙ z)) in omega arith

      go : (Best (λ j. lowest (λ n. off n j) ns) k row place → Refused row place ≡ first_by off k ns) → Dec (row ≡ n) → Refused row place ≡ first_by off k (n ∷ ns)
      go rest (yes q) =
          let here : off n place ≡ true = cases (off n place) (λ e. e) (λ e. let l = later e in absurd (omega arith)) in
          let none_before : (j : ℕ) → j < place → off n j ≡ false = λ j l. cases (off n j) (λ e. let h = hit j e in let w = b.early ne j l (λ z. some_n (sym h ∙ z)) in absurd (omega arith)) (λ e. e) in
          ap (λ (x : ℕ). Refused x place) q ∙ sym (by_some n ns place (first?-below_intro (off n) k place (b.inside ne) here none_before))
      go rest (no d) =
          let away : off n place ≡ false = cases (off n place) (λ e. absurd (d (sym (b.is ne) ∙ hit place e))) (λ e. e) in
          let l = later away in
          let none_of : (j : ℕ) → j < k → off n j ≡ false = λ j i. cases (off n j) (λ e. let h = hit j e in let w = b.least ne j i (λ z. some_n (sym h ∙ z)) in absurd (omega arith)) (λ e. e) in
          rest (best_agree f (λ j. lowest (λ n. off n j) ns) k row place (λ j i. miss j (none_of j i)) b) ∙ sym (by_none n ns (none_in (off n) k none_of))
