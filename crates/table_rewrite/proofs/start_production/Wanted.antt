-- Is a start production wanted: what the first two productions of a nonterminal say of all.
use mathlib.Core.Path.{◌≡◌, refl, sym, ap, ◌∙◌}
use mathlib.Core.Bool.{Bool, true, false, not, ◌||◌}
use mathlib.Core.List.{List, [], ◌∷◌}
use mathlib.Core.Option.{Option, none, some, some-injective}
use Prim.Native.Nat.{ℕ, zero, suc, ◌+◌, ◌-◌, ◌≤◌, ◌<◌}
use native.Mathlib.Omega.{arith}
use lib.ListN.{length, get_or}
use lib.Dec.{eqb}
use borrow.Author.Tests.{ne_eqb}
use Rattle.lr1_base.specs.repr.Lists.{up_from, below, keep, some?, first?}
use Rattle.lr1_base.specs.repr.Meaning.{Table, Production, no_production}
use Rattle.lr1_base.specs.repr.Packed.{productions_in}
use Rattle.lr1_base.proofs.repr.Lists.{cases, keep-yes, keep_no, keep-none}
use Rattle.lr1_base.proofs.repr.Tests.{first?-nil, first?-yes, first?_no, first?-none}
use Rattle.table_rewrite.specs.spelling.Spelled.{owns}
use Rattle.table_rewrite.specs.grammar_records.Target.{PackedAs, number_or, owned_from}
use Rattle.table_rewrite.proofs.grammar_records.Packed.{many_of}
use Rattle.table_rewrite.proofs.grammar_records.Owned.{found_below}
use Rattle.table_rewrite.specs.start_production.Started.{uses, stands_in, owned_by, is_start_needed}

-- what passes, from the first that does
module _ (t : ℕ → Bool) where
  none_kept : (xs : List ℕ) → first? t xs ≡ none → keep t xs ≡ []
  none_kept xs e = keep-none t xs 0 (λ i h. first?-none t xs i 0 e h)

  first-kept : (p k q : ℕ) → first? t (up_from p k) ≡ some q → keep t (up_from p k) ≡ q ∷ keep t (up_from (q + 1) (p + k - (q + 1)))
  unfolding up_from
  first-kept p zero q e = let z : none ≡ some q = sym (first?-nil t) ∙ e in let o : ◌≡◌ {A = ℕ} 0 1 = cc in absurd (omega arith)
  first-kept p (suc k) q e =
      cases (t p)
      (λ y.
      let z : p ≡ q = some-injective p q (sym (first?-yes t p (up_from (suc p) k) y) ∙ e) in
      let a : suc p ≡ q + 1 = omega arith in
      let b : k ≡ p + suc k - (q + 1) = omega arith in
      keep-yes t p (up_from (suc p) k) y ∙ ap (λ (j : ℕ). j ∷ keep t (up_from (suc p) k)) z ∙ ap (λ (j : ℕ). q ∷ keep t (up_from j k)) a ∙ ap (λ (j : ℕ). q ∷ keep t (up_from (q + 1) j)) b)
      (λ y.
      let b : suc p + k - (q + 1) ≡ p + suc k - (q + 1) = omega arith in
      keep_no t p (up_from (suc p) k) y ∙ first-kept (suc p) k q (sym (first?_no t p (up_from (suc p) k) y) ∙ e) ∙ ap (λ (j : ℕ). q ∷ keep t (up_from (q + 1) j)) b)

abbrev owned_for : List Production → ℕ → ℕ → Bool
owned_for ps n q = eqb (get_or ps q no_production).nonterminal n

module _ (ps : List Production) (n p q : ℕ) (h : p ≤ length ps) (e : q ≡ owned_from ps n p) where
  kept-some : q < length ps → keep (owned_for ps n) (up_from p (length ps - p)) ≡ q ∷ keep (owned_for ps n) (up_from (q + 1) (length ps - (q + 1)))
  unfolding owned_from number_or
  kept-some l = go (first? (owned_for ps n) (up_from p (length ps - p))) refl e
    where
      go : (o : Option ℕ) → first? (owned_for ps n) (up_from p (length ps - p)) ≡ o → q ≡ number_or (length ps) o → keep (owned_for ps n) (up_from p (length ps - p)) ≡ q ∷ keep (owned_for ps n) (up_from (q + 1) (length ps - (q + 1)))
      go none f z = absurd (omega arith)
      go (some k) f z =
          let a : p + (length ps - p) - (q + 1) ≡ length ps - (q + 1) = omega arith in
          first-kept (owned_for ps n) p (length ps - p) q (f ∙ ap some (sym z)) ∙ ap (λ (j : ℕ). q ∷ keep (owned_for ps n) (up_from (q + 1) j)) a

  kept-none : length ps ≤ q → keep (owned_for ps n) (up_from p (length ps - p)) ≡ []
  unfolding owned_from number_or
  kept-none l = go (first? (owned_for ps n) (up_from p (length ps - p))) refl e
    where
      go : (o : Option ℕ) → first? (owned_for ps n) (up_from p (length ps - p)) ≡ o → q ≡ number_or (length ps) o → keep (owned_for ps n) (up_from p (length ps - p)) ≡ []
      go none f z = none_kept (owned_for ps n) (up_from p (length ps - p)) f
      go (some k) f z = let b = found_below (owned_for ps n) p (length ps) k f in absurd (omega arith)

-- the first production of nonterminal n, and the first behind it
module _ (U : Table) (g : List ℕ) (m n first : ℕ) (P : PackedAs U g m) (ef : first ≡ owned_from (productions_in g m) n 0) where
  all-kept : owned_by U n ≡ keep (owned_for U.productions n) (up_from 0 (length U.productions - 0))
  unfolding owned_by owns below
  all-kept = let z : length U.productions ≡ length U.productions - 0 = omega arith in ap (λ (k : ℕ). keep (owned_for U.productions n) (up_from 0 k)) z

  wanted-not_one : (eqb (length (owned_by U n)) 1 ≡ false) → true ≡ is_start_needed U n
  unfolding is_start_needed
  wanted-not_one e = rw e

  pub wanted-none : m ≤ first → true ≡ is_start_needed U n
  wanted-none h =
      let l = many_of U g m P in
      let k = all-kept ∙ kept-none U.productions n 0 first (omega arith) (rw P.same at ef) (omega arith) in
      wanted-not_one (ap (λ (xs : List ℕ). eqb (length xs) 1) k)

  pub from_first : first < m → owned_by U n ≡ first ∷ keep (owned_for U.productions n) (up_from (first + 1) (length U.productions - (first + 1)))
  from_first h = let l = many_of U g m P in all-kept ∙ kept-some U.productions n 0 first (omega arith) (rw P.same at ef) (omega arith)

  module _ (h : first < m) (second : ℕ) (es : second ≡ owned_from (productions_in g m) n (first + 1)) where
    pub wanted_two : second < m → true ≡ is_start_needed U n
    wanted_two d =
        let l = many_of U g m P in
        let k = ap length (from_first h ∙ ap (λ (xs : List ℕ). first ∷ xs) (kept-some U.productions n (first + 1) second (omega arith) (rw P.same at es) (omega arith))) in
        wanted-not_one (ne_eqb (length (owned_by U n)) 1 (λ z. omega arith))

    only_one : m ≤ second → owned_by U n ≡ first ∷ []
    only_one d = let l = many_of U g m P in from_first h ∙ ap (λ (xs : List ℕ). first ∷ xs) (kept-none U.productions n (first + 1) second (omega arith) (rw P.same at es) (omega arith))

    pub wanted_one : (r : Bool) → m ≤ second → r ≡ some? (uses n) (productions_in g m) → r ≡ is_start_needed U n
    unfolding is_start_needed stands_in
    wanted_one r d e = e ∙ ap (some? (uses n)) P.same ∙ ap (λ (xs : List ℕ). not (eqb (length xs) 1) || some? (uses n) U.productions) (sym (only_one d))
