-- How many pass a test below a number: ranks rise, and the rank of a number is its place among those that pass.
use mathlib.Core.Path.{◌≡◌, refl, sym, ap, ◌∙◌}
use mathlib.Core.Bool.{Bool, true, false}
use mathlib.Core.List.{List, [], ◌∷◌, ◌++◌}
use Prim.Native.Nat.{ℕ, zero, suc, ◌+◌, ◌≤◌, ◌<◌}
use native.Mathlib.Omega.{arith}
use lib.Dec.{eqb}
use lib.ListN.{length, get_or, length-append, get_or-append}
use lib.Seq.{get_or-append-add}
use borrow.Author.Tests.{eqb-true, eqb-false}
use Rattle.lr1_base.specs.repr.Lists.{up_from, below, keep}
use Rattle.lr1_base.proofs.repr.Lists.{cases, below_last}
use Rattle.table_rewrite.specs.compaction.Compaction.{rank_of}

module _ (f : ℕ → Bool) where
  keep_append : (xs ys : List ℕ) → keep f (xs ++ ys) ≡ keep f xs ++ keep f ys
  unfolding keep
  keep_append [] ys = refl
  keep_append (x ∷ xs) ys = cases (f x) (λ e. rw (e, keep) (ap (λ (l : List ℕ). x ∷ l) (keep_append xs ys))) (λ e. rw (e, keep) (keep_append xs ys))

  pub keep-yes : (n : ℕ) → f n ≡ true → keep f (below (suc n)) ≡ keep f (below n) ++ n ∷ []
  unfolding keep
  keep-yes n e = ap (keep f) (below_last n) ∙ keep_append (below n) (n ∷ []) ∙ ap (λ (l : List ℕ). keep f (below n) ++ l) (rw (e, keep))

  pub keep_no : (n : ℕ) → f n ≡ false → keep f (below (suc n)) ≡ keep f (below n) ++ []
  unfolding keep
  keep_no n e = ap (keep f) (below_last n) ∙ keep_append (below n) (n ∷ []) ∙ ap (λ (l : List ℕ). keep f (below n) ++ l) (rw (e, keep))

  pub rank-zero : rank_of f 0 ≡ 0
  unfolding rank_of below up_from keep
  rank-zero = refl

  pub rank-yes : (n : ℕ) → f n ≡ true → rank_of f (suc n) ≡ suc (rank_of f n)
  unfolding rank_of
  rank-yes n e = ap length (keep-yes n e) ∙ length-append (keep f (below n)) (n ∷ []) ∙ omega arith

  pub rank_no : (n : ℕ) → f n ≡ false → rank_of f (suc n) ≡ rank_of f n
  unfolding rank_of
  rank_no n e = ap length (keep_no n e) ∙ length-append (keep f (below n)) [] ∙ omega arith

  pub rank_most : (n : ℕ) → rank_of f n ≤ n
  rank_most zero = let e = rank-zero in omega arith
  rank_most (suc n) =
      let i = rank_most n in
      cases (f n) (λ e. let s = rank-yes n e in omega arith) (λ e. let s = rank_no n e in omega arith)

  pub rank_one : (n : ℕ) → rank_of f n ≤ rank_of f (suc n)
  rank_one n = cases (f n) (λ e. let s = rank-yes n e in omega arith) (λ e. let s = rank_no n e in omega arith)

  pub rank_up : (x y : ℕ) → x ≤ y → rank_of f x ≤ rank_of f y
  rank_up x zero h = let z : x ≡ 0 = omega arith in let w : rank_of f x ≡ rank_of f 0 = ap (rank_of f) z in omega arith
  rank_up x (suc y) h =
      cases (eqb x (suc y))
      (λ q. let w : rank_of f x ≡ rank_of f (suc y) = ap (rank_of f) (eqb-true x (suc y) q) in omega arith)
      (λ q. let ne = eqb-false x (suc y) q in let i = rank_up x y (omega arith) in let o = rank_one y in omega arith)

  pub rank_rises : (x y : ℕ) → f x ≡ true → x < y → rank_of f x < rank_of f y
  rank_rises x zero e h = absurd (omega arith)
  rank_rises x (suc y) e h =
      cases (eqb x y)
      (λ q. let z = eqb-true x y q in let s = rank-yes x e in let w : rank_of f (suc x) ≡ rank_of f (suc y) = ap (λ (k : ℕ). rank_of f (suc k)) z in omega arith)
      (λ q.
      let ne = eqb-false x y q in
      let i = rank_rises x y e (omega arith) in
      let u = rank_one y in
      omega arith)

  -- below the first that passes there is none
  pub rank-none : (n : ℕ) → ((x : ℕ) → x < n → f x ≡ false) → rank_of f n ≡ 0
  rank-none zero h = rank-zero
  rank-none (suc n) h = rank_no n (h n (omega arith)) ∙ rank-none n (λ x l. h x (omega arith))

  -- where none passes below `from`, there are no more than lie behind it
  pub rank_bound : (from n : ℕ) → ((x : ℕ) → x < from → f x ≡ false) → from ≤ n → from + rank_of f n ≤ n
  rank_bound from zero h l = let e = rank-zero in omega arith
  rank_bound from (suc n) h l =
      cases (eqb from (suc n))
      (λ q. let z = eqb-true from (suc n) q in let e = rank-none (suc n) (λ x k. h x (omega arith)) in omega arith)
      (λ q.
      let ne = eqb-false from (suc n) q in
      let i = rank_bound from n h (omega arith) in
      cases (f n) (λ e. let s = rank-yes n e in omega arith) (λ e. let s = rank_no n e in omega arith))

  -- each number below a rank is the rank of one that passes
  pub rank-onto : (n i : ℕ) → i < rank_of f n → (x : ℕ) × (x < n) × (f x ≡ true) × (rank_of f x ≡ i)
  rank-onto zero i h = let e = rank-zero in absurd (omega arith)
  rank-onto (suc n) i h =
      cases (f n)
      (λ e.
      let s = rank-yes n e in
      cases (eqb i (rank_of f n))
      (λ q. (n, omega arith, e, sym (eqb-true i (rank_of f n) q)))
      (λ q. let ne = eqb-false i (rank_of f n) q in let w = rank-onto n i (omega arith) in (w.0, omega (arith, w.1), w.2, w.3)))
      (λ e. let s = rank_no n e in let w = rank-onto n i (omega arith) in (w.0, omega (arith, w.1), w.2, w.3))

  -- where just those from `from` up to and without `past` pass
  pub rank_block : (from past n : ℕ) → ((x : ℕ) → x < from → f x ≡ false) → ((x : ℕ) → from ≤ x → x < past → f x ≡ true) → from ≤ n → n ≤ past → from + rank_of f n ≡ n
  rank_block from past zero h k l m = let e = rank-zero in omega arith
  rank_block from past (suc n) h k l m =
      cases (eqb from (suc n))
      (λ q. let z = eqb-true from (suc n) q in let e = rank-none (suc n) (λ x b. h x (omega arith)) in omega arith)
      (λ q.
      let ne = eqb-false from (suc n) q in
      let i = rank_block from past n h k (omega arith) (omega arith) in
      let s = rank-yes n (k n (omega arith) (omega arith)) in
      omega arith)

  pub rank_flat : (past n : ℕ) → ((x : ℕ) → past ≤ x → f x ≡ false) → past ≤ n → rank_of f n ≡ rank_of f past
  rank_flat past zero h l = let z : past ≡ 0 = omega arith in sym (ap (rank_of f) z)
  rank_flat past (suc n) h l =
      cases (eqb past (suc n))
      (λ q. sym (ap (rank_of f) (eqb-true past (suc n) q)))
      (λ q. let ne = eqb-false past (suc n) q in rank_no n (h n (omega arith)) ∙ rank_flat past n h (omega arith))

  size : (n : ℕ) → rank_of f n ≡ length (keep f (below n))
  unfolding rank_of
  size n = refl

  long : (n : ℕ) → rank_of f n ≡ length (keep f (below n)) + 0
  long n = let e = size n in omega arith

  -- the place among those that pass
  pub kept_at : (n x : ℕ) → f x ≡ true → x < n → get_or (keep f (below n)) (rank_of f x) 0 ≡ x
  kept_at zero x e h = absurd (omega arith)
  kept_at (suc n) x e h =
      cases (eqb x n)
      (λ q.
      let z = eqb-true x n q in
      rw z
      (ap (λ (l : List ℕ). get_or l (rank_of f n) 0) (keep-yes n (sym (ap f z) ∙ e)) ∙ last n))
      (λ q.
      let ne = eqb-false x n q in
      let l : x < n = omega arith in
      cases (f n)
      (λ g. ap (λ (l : List ℕ). get_or l (rank_of f x) 0) (keep-yes n g) ∙ get_or-append (keep f (below n)) (n ∷ []) 0 (rank_of f x) (in_kept x n e l) ∙ kept_at n x e l)
      (λ g. ap (λ (l : List ℕ). get_or l (rank_of f x) 0) (keep_no n g) ∙ get_or-append (keep f (below n)) [] 0 (rank_of f x) (in_kept x n e l) ∙ kept_at n x e l))
    where
      last : (n : ℕ) → get_or (keep f (below n) ++ n ∷ []) (rank_of f n) 0 ≡ n
      last n = ap (λ (i : ℕ). get_or (keep f (below n) ++ n ∷ []) i 0) (long n) ∙ get_or-append-add (keep f (below n)) (n ∷ []) 0 0

      in_kept : (x n : ℕ) → f x ≡ true → x < n → rank_of f x < length (keep f (below n))
      in_kept x n e h = let r = rank_rises x n e h in let l = size n in omega arith
