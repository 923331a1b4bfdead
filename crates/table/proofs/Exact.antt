-- What `check_of` of specs/Refusals answers, both ways, for every list of words: the lowest row that applies and its least offending record, or accepted if none does.
use mathlib.Core.Path.{◌≡◌, refl, sym, ap, ◌∙◌}
use mathlib.Core.Bool.{Bool, true, false}
use mathlib.Core.List.{List, [], ◌∷◌}
use mathlib.Core.Logic.{◌↔◌}
use mathlib.Core.Option.{Option, none, some}
use Prim.Native.Nat.{ℕ, zero, suc, ◌+◌, ◌≤◌, ◌<◌}
use native.Mathlib.Omega.{arith}
use native.Mathlib.Decide.{ℕ_discrete}
use Rattle.lr1_base.specs.repr.Lists.{up_from, below, first?}
use Rattle.lr1_base.proofs.repr.Lists.{cases, length-below, get_d_below}
use Rattle.lr1_base.proofs.repr.Tests.{first?-none_intro, first?-below, first?-below_intro, first?-below-none}
use Rattle.table.specs.Checked.{Accepted, Refused}
use Rattle.table.specs.Words.{records}
use Rattle.table.specs.Refusals.{row1, row2, offends, first_row, check_of}

-- two different answers
apart : {n r : ℕ} → Accepted ≡ Refused n r → ⊥
apart e = let z : ◌≡◌ {A = ℕ} 0 1 = cc in omega arith

same_row : {n r m q : ℕ} → Refused n r ≡ Refused m q → n ≡ m
same_row e = cc

same_place : {n r m q : ℕ} → Refused n r ≡ Refused m q → r ≡ q
same_place e = cc

-- no number of a range passes a test
pub none_in : (f : ℕ → Bool) (k : ℕ) → ((j : ℕ) → j < k → f j ≡ false) → first? f (below k) ≡ none
none_in f k h =
    first?-none_intro f (below k) 0 (λ i l.
    let m : i < k = rw (length-below k) at l in
    ap f (get_d_below k i 0 m) ∙ h i m)

-- ---- one row
module _ (t : List ℕ) (n : ℕ) where
  pub row_some : (ns : List ℕ) (r : ℕ) → first? (offends n t) (below (records t)) ≡ some r → first_row t (n ∷ ns) ≡ Refused n r
  unfolding first_row
  row_some ns r e = rw (e, first_row)

  pub row_none : (ns : List ℕ) → first? (offends n t) (below (records t)) ≡ none → first_row t (n ∷ ns) ≡ first_row t ns
  unfolding first_row
  row_none ns e = rw (e, first_row)

-- ---- rows from m on

-- record r offends against row n and is the least that does, and no record offends against a row from m on that is lower
pub record First (t : List ℕ) (m n r : ℕ) : Type 0 where
  pub inside : r < records t
  pub met : offends n t r ≡ true
  pub least : (j : ℕ) → j < r → offends n t j ≡ false
  pub lower : (i j : ℕ) → m ≤ i → i < n → j < records t → offends i t j ≡ false

module _ (t : List ℕ) where
  step : (m k : ℕ) → first_row t (up_from m (suc k)) ≡ first_row t (m ∷ up_from (suc m) k)
  unfolding up_from
  step m k = refl

  row_end : (m : ℕ) → first_row t (up_from m 0) ≡ Accepted
  unfolding up_from first_row
  row_end m = refl

  rows_refused : (k m n r : ℕ) → first_row t (up_from m k) ≡ Refused n r → (m ≤ n) × (n < m + k) × First t m n r
  rows_refused zero m n r e = absurd (apart (sym (row_end m) ∙ e))
  rows_refused (suc k) m n r e = go (rows_refused k (suc m) n r) (first? (offends m t) (below (records t))) refl
    where
      go : (first_row t (up_from (suc m) k) ≡ Refused n r → (suc m ≤ n) × (n < suc m + k) × First t (suc m) n r) → (o : Option ℕ) → first? (offends m t) (below (records t)) ≡ o
          → (m ≤ n) × (n < m + suc k) × First t m n r
      go rest (some x) q =
          let a = sym (step m k ∙ row_some t m (up_from (suc m) k) x q) ∙ e in
          let w = first?-below (offends m t) (records t) x q in
          let en : m ≡ n = same_row a in
          let er : x ≡ r = same_place a in
          (omega arith, omega arith, rw (← en, ← er) (record { inside = w.0; met = w.1; least = w.2; lower = λ i j a b. absurd (omega arith) }))
      go rest none q =
          let w = rest (sym (step m k ∙ row_none t m (up_from (suc m) k) q) ∙ e) in
          let F = w.2 in
          let low : (i j : ℕ) → m ≤ i → i < n → j < records t → offends i t j ≡ false = λ i j a b l. at F i j b l (ℕ_discrete i m) a in
          (omega (arith, w.0), omega (arith, w.1), record { inside = F.inside; met = F.met; least = F.least; lower = low })
        where
          at : First t (suc m) n r → (i j : ℕ) → i < n → j < records t → Dec (i ≡ m) → m ≤ i → offends i t j ≡ false
          at F i j b l (yes z) a = rw z (first?-below-none (offends m t) (records t) j q l)
          at F i j b l (no ne) a = F.lower i j (omega arith) b l

  rows_first : (k m n r : ℕ) → m ≤ n → n < m + k → First t m n r → first_row t (up_from m k) ≡ Refused n r
  rows_first zero m n r a b F = absurd (omega arith)
  rows_first (suc k) m n r a b F = step m k ∙ go (rows_first k (suc m) n r) (ℕ_discrete n m)
    where
      go : (suc m ≤ n → n < suc m + k → First t (suc m) n r → first_row t (up_from (suc m) k) ≡ Refused n r) → Dec (n ≡ m) → first_row t (m ∷ up_from (suc m) k) ≡ Refused n r
      go rest (yes z) =
          rw (← z) (row_some t n (up_from (suc n) k) r (first?-below_intro (offends n t) (records t) r F.inside F.met F.least))
      go rest (no ne) =
          row_none t m (up_from (suc m) k) (none_in (offends m t) (records t) (λ j l. F.lower m j (omega arith) (omega arith) l))
          ∙ rest (omega arith) (omega arith) (record { inside = F.inside; met = F.met; least = F.least; lower = λ i j c d l. F.lower i j (omega arith) d l })

  rows_accepted : (k m : ℕ) → first_row t (up_from m k) ≡ Accepted → (i j : ℕ) → m ≤ i → i < m + k → j < records t → offends i t j ≡ false
  rows_accepted zero m e i j a b l = absurd (omega arith)
  rows_accepted (suc k) m e i j a b l = go (rows_accepted k (suc m)) (first? (offends m t) (below (records t))) refl (ℕ_discrete i m)
    where
      go : (first_row t (up_from (suc m) k) ≡ Accepted → (i j : ℕ) → suc m ≤ i → i < suc m + k → j < records t → offends i t j ≡ false)
          → (o : Option ℕ) → first? (offends m t) (below (records t)) ≡ o → Dec (i ≡ m) → offends i t j ≡ false
      go rest (some x) q d = absurd (apart (sym e ∙ step m k ∙ row_some t m (up_from (suc m) k) x q))
      go rest none q (yes z) = rw z (first?-below-none (offends m t) (records t) j q l)
      go rest none q (no ne) = rest (sym (row_none t m (up_from (suc m) k) q) ∙ sym (step m k) ∙ e) i j (omega arith) (omega arith) l

  rows_clean : (k m : ℕ) → ((i j : ℕ) → m ≤ i → i < m + k → j < records t → offends i t j ≡ false) → first_row t (up_from m k) ≡ Accepted
  rows_clean zero m h = row_end m
  rows_clean (suc k) m h =
      step m k ∙ row_none t m (up_from (suc m) k) (none_in (offends m t) (records t) (λ j l. h m j (omega arith) (omega arith) l))
      ∙ rows_clean k (suc m) (λ i j a b l. h i j (omega arith) (omega arith) l)

  -- ---- the answer by rows 1 and 2
  pub check_words : row1 t ≡ true → check_of t ≡ Refused 1 0
  unfolding check_of
  check_words a = rw (a, check_of)

  pub check_counts : row1 t ≡ false → row2 t ≡ true → check_of t ≡ Refused 2 0
  unfolding check_of
  check_counts a b = rw (a, b, check_of)

  pub check_rows : row1 t ≡ false → row2 t ≡ false → check_of t ≡ first_row t (3 ∷ 4 ∷ 5 ∷ 6 ∷ 7 ∷ 8 ∷ [])
  unfolding check_of
  check_rows a b = rw (a, b, check_of)

  check_from : row1 t ≡ false → row2 t ≡ false → check_of t ≡ first_row t (up_from 3 6)
  unfolding up_from
  check_from a b = check_rows a b

-- ---- both ways

-- rows 1 and 2 do not apply, no record offends against a lower row, and record r is the least that offends against row n
pub record RefusedBy (t : List ℕ) (n r : ℕ) : Type 0 where
  pub words : row1 t ≡ false
  pub counts : row2 t ≡ false
  pub first : First t 3 n r

-- no row applies
pub record Clean (t : List ℕ) : Type 0 where
  pub words : row1 t ≡ false
  pub counts : row2 t ≡ false
  pub records : (n r : ℕ) → 3 ≤ n → n ≤ 8 → r < records t → offends n t r ≡ false

module _ (t : List ℕ) where
  -- an answer is that of the first row that applies
  module _ {ℓ} {P : Type ℓ} (one : row1 t ≡ true → P) (two : row1 t ≡ false → row2 t ≡ true → P) (rest : row1 t ≡ false → row2 t ≡ false → P) where
    by_rows : P
    by_rows = cases (row1 t) one (λ a. cases (row2 t) (two a) (rest a))

  refused_by : (n r : ℕ) → check_of t ≡ Refused n r → 3 ≤ n → (n ≤ 8) × RefusedBy t n r
  refused_by n r e h =
      by_rows
      (λ a. let z : 1 ≡ n = same_row (sym (check_words t a) ∙ e) in absurd (omega arith))
      (λ a b. let z : 2 ≡ n = same_row (sym (check_counts t a b) ∙ e) in absurd (omega arith))
      (λ a b. let w = rows_refused t 6 3 n r (sym (check_from t a b) ∙ e) in (omega (arith, w.1), record { words = a; counts = b; first = w.2 }))

  pub refused_exact : (n r : ℕ) → 3 ≤ n → n ≤ 8 → (check_of t ≡ Refused n r) ↔ RefusedBy t n r
  refused_exact n r h l = (λ e. (refused_by n r e h).1, λ R. check_from t R.words R.counts ∙ rows_first t 6 3 n r h (omega arith) R.first)

  pub accepted_exact : (check_of t ≡ Accepted) ↔ Clean t
  accepted_exact = (
    λ e.
        by_rows
        (λ a. absurd (apart (sym e ∙ check_words t a)))
        (λ a b. absurd (apart (sym e ∙ check_counts t a b)))
        (λ a b. record { words = a; counts = b; records = λ n r h l i. rows_accepted t 6 3 (sym (check_from t a b) ∙ e) n r h (omega arith) i }),
    λ C. check_from t C.words C.counts ∙ rows_clean t 6 3 (λ n r h l i. C.records n r h (omega arith) i),
  )

  pub words_exact : (r : ℕ) → (check_of t ≡ Refused 1 r) ↔ ((row1 t ≡ true) × (r ≡ 0))
  words_exact r = (
    λ e.
        by_rows
        (λ a. (a, sym (same_place (sym (check_words t a) ∙ e))))
        (λ a b. let z : 2 ≡ 1 = same_row (sym (check_counts t a b) ∙ e) in absurd (omega arith))
        (λ a b. let w = (rows_refused t 6 3 1 r (sym (check_from t a b) ∙ e)).0 in absurd (omega arith)),
    λ p. rw p.1 (check_words t p.0),
  )

  pub counts_exact : (r : ℕ) → (check_of t ≡ Refused 2 r) ↔ ((row1 t ≡ false) × ((row2 t ≡ true) × (r ≡ 0)))
  counts_exact r = (
    λ e.
        by_rows
        (λ a. let z : 1 ≡ 2 = same_row (sym (check_words t a) ∙ e) in absurd (omega arith))
        (λ a b. (a, (b, sym (same_place (sym (check_counts t a b) ∙ e)))))
        (λ a b. let w = (rows_refused t 6 3 2 r (sym (check_from t a b) ∙ e)).0 in absurd (omega arith)),
    λ p. rw p.1.1 (check_counts t p.0 p.1.0),
  )

  -- no other refusal is answered
  pub no_other : (n r : ℕ) → check_of t ≡ Refused n r → (1 ≤ n) × (n ≤ 8)
  no_other n r e =
      by_rows
      (λ a. let z : 1 ≡ n = same_row (sym (check_words t a) ∙ e) in (omega arith, omega arith))
      (λ a b. let z : 2 ≡ n = same_row (sym (check_counts t a b) ∙ e) in (omega arith, omega arith))
      (λ a b. let w = rows_refused t 6 3 n r (sym (check_from t a b) ∙ e) in (omega (arith, w.0), omega (arith, w.1)))
