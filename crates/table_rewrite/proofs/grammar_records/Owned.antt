-- The next production of a nonterminal, as its number and as its record.
use mathlib.Core.Bool.{Bool}
use mathlib.Core.Path.{◌≡◌, refl, sym, ap, ◌∙◌}
use mathlib.Core.List.{List, ◌∷◌}
use mathlib.Core.Option.{Option, none, some}
use Prim.Native.Nat.{ℕ, zero, suc, ◌+◌, ◌-◌, ◌≤◌, ◌<◌}
use native.Mathlib.Omega.{arith}
use lib.ListN.{length, get_or}
use lib.Dec.{eqb, ltb}
use borrow.Author.Tests.{eq-eqb, ne_eqb, ltb-true, ltb-false}
use Rattle.std.proofs.Common.{Option as Found, Some, None}
use Rattle.std.specs.Option.{MatchOption}
use Rattle.lr1_base.specs.repr.Sizes.{production_place}
use Rattle.lr1_base.specs.repr.Lists.{up_from, first?}
use Rattle.lr1_base.specs.repr.Meaning.{Table, Production, no_production}
use Rattle.lr1_base.specs.repr.Packed.{Packed, productions_in}
use Rattle.lr1_base.proofs.repr.Lists.{cases, length-up_from, get_d_up_from}
use Rattle.lr1_base.proofs.repr.Tests.{first?-yes, first?_no, first?_at}
use Rattle.table_rewrite.specs.spelling.Spelled.{productions_at, symbols_at, owns, record_or, next_owned_from}
use Rattle.table_rewrite.proofs.spelling.Places.{begins}
use Rattle.table_rewrite.specs.grammar_records.Target.{PackedAs, number_or, owned_from}
use Rattle.table_rewrite.proofs.grammar_records.Packed.{row_at, many_of}
use Rattle.lr1_base.proofs.repr.Packed.{productions_long}

-- what is found from p on lies below the end
pub found_below : (t : ℕ → Bool) (p m q : ℕ) → first? t (up_from p (m - p)) ≡ some q → q < m
found_below t p m q e =
    let f = first?_at t (up_from p (m - p)) q 0 e in
    let h : f.0 < m - p = rw (length-up_from p (m - p)) at f.1 in
    let g = get_d_up_from p (m - p) f.0 0 h in
    omega (arith, f.2)

-- one step of the search
abbrev owned_by : List Production → ℕ → ℕ → Bool
owned_by ps n q = eqb (get_or ps q no_production).nonterminal n

module _ (ps : List Production) (n p : ℕ) where
  here : p < length ps → up_from p (length ps - p) ≡ p ∷ up_from (p + 1) (length ps - (p + 1))
  unfolding up_from
  here h =
      let a : length ps - p ≡ suc (length ps - (p + 1)) = omega arith in
      let b : suc p ≡ p + 1 = omega arith in
      rw (a, ← b)

  pub owned-found : p < length ps → (get_or ps p no_production).nonterminal ≡ n → owned_from ps n p ≡ p
  unfolding owned_from number_or
  owned-found h e = ap (number_or (length ps)) (ap (first? (owned_by ps n)) (here h) ∙ first?-yes (owned_by ps n) p (up_from (p + 1) (length ps - (p + 1))) (eq-eqb _ _ e))

  pub owned_on : p < length ps → ((get_or ps p no_production).nonterminal ≡ n → ⊥) → owned_from ps n p ≡ owned_from ps n (p + 1)
  unfolding owned_from
  owned_on h e = ap (number_or (length ps)) (ap (first? (owned_by ps n)) (here h) ∙ first?_no (owned_by ps n) p (up_from (p + 1) (length ps - (p + 1))) (ne_eqb _ _ e))

  pub owned_end : length ps ≤ p → owned_from ps n p ≡ length ps
  unfolding owned_from number_or up_from first?
  owned_end h = let a : length ps - p ≡ 0 = omega arith in ap (λ (k : ℕ). number_or (length ps) (first? (owned_by ps n) (up_from p k))) a

-- the record is 0 or that production's
module _ (U : Table) (n p q : ℕ) (e : q ≡ owned_from U.productions n p) where
  pub record_found : q < length U.productions → next_owned_from U n p ≡ productions_at U + q
  unfolding owned_from next_owned_from owns number_or record_or
  record_found h = go (first? (owned_by U.productions n) (up_from p (length U.productions - p))) e
    where
      go : (o : Option ℕ) → q ≡ number_or (length U.productions) o → record_or (productions_at U) o ≡ productions_at U + q
      go none z = absurd (omega arith)
      go (some k) z = omega arith

  pub record_none : length U.productions ≤ q → next_owned_from U n p ≡ 0
  unfolding owned_from next_owned_from owns number_or record_or
  record_none h = go (first? (owned_by U.productions n) (up_from p (length U.productions - p))) refl e
    where
      go : (o : Option ℕ) → first? (owned_by U.productions n) (up_from p (length U.productions - p)) ≡ o → q ≡ number_or (length U.productions) o → record_or (productions_at U) o ≡ 0
      go none i z = refl
      go (some k) i z = let b = found_below _ p (length U.productions) k i in absurd (omega arith)

-- it lies in the productions' area
pub owned_small : (T : Table) (n p : ℕ) → next_owned_from T n p ≤ symbols_at T
unfolding next_owned_from record_or
owned_small T n p = go (first? (owns T n) (up_from p (length T.productions - p))) refl
  where
    go : (o : Option ℕ) → first? (owns T n) (up_from p (length T.productions - p)) ≡ o → record_or (productions_at T) o ≤ symbols_at T
    go none e = omega arith
    go (some q) e = let b = begins T in let f = found_below (owns T n) p (length T.productions) q e in omega arith

-- the search in the packed productions, as the library's says it
module _ (g : List ℕ) (n owner from : ℕ) (P : Packed g n) where
  abbrev is : ℕ → Type 0
  is p = get_or g (production_place p) 0 ≡ owner

  found : (p : ℕ) → p < n → is p → owned_from (productions_in g n) owner p ≡ p
  found p h z = let m = productions_long g n in owned-found (productions_in g n) owner p (omega arith) (sym (row_at g n p P h).owner ∙ z)

  past : (p k : ℕ) → p + k ≤ n → ((q : ℕ) → p ≤ q → q < p + k → is q → ⊥) → owned_from (productions_in g n) owner p ≡ owned_from (productions_in g n) owner (p + k)
  past p zero h f = let z : p + 0 ≡ p = omega arith in rw z refl
  past p (suc k) h f =
      let m = productions_long g n in
      let e : p + 1 + k ≡ p + suc k = omega arith in
      owned_on (productions_in g n) owner p (omega arith) (λ q. f p (omega arith) (omega arith) ((row_at g n p P (omega arith)).owner ∙ q))
      ∙ rw e at (past (p + 1) k (omega arith) (λ q l u. f q (omega arith) (omega arith)))

  none_left : (p : ℕ) → n ≤ p → owned_from (productions_in g n) owner p ≡ n
  none_left p h = let m = productions_long g n in owned_end (productions_in g n) owner p (omega arith) ∙ m

  pub owned_first : (r : Found ℕ) → MatchOption r ((k : ℕ) → from ≤ k → k < n → is k → ⊥) (λ i. (from ≤ i) × (i < n) × is i × ((k : ℕ) → from ≤ k → k < i → is k → ⊥))
      → let p = owned_from (productions_in g n) owner from in MatchOption r (p ≡ n) (λ q. (q < n) × (p ≡ q))
  owned_first None f =
      cases (ltb from n)
      (λ t.
      let h = ltb-true from n t in
      let e : from + (n - from) ≡ n = omega arith in
      past from (n - from) (omega arith) (λ q l u. f q l (omega arith)) ∙ rw e (none_left n (omega arith)))
      (λ t. none_left from (ltb-false from n t))
  owned_first (Some i) f =
      let e : from + (i - from) ≡ i = omega (arith, f.0) in
      (f.1, past from (i - from) (omega (arith, f.0, f.1)) (λ q l u. f.3 q l (omega (arith, f.0))) ∙ rw e (found i f.1 f.2))

module _ (U : Table) (g : List ℕ) (n owner from at q : ℕ) (P : PackedAs U g n) (ea : at ≡ productions_at U) (e : q ≡ owned_from (productions_in g n) owner from) where
  pub record_is : q < n → at + q ≡ next_owned_from U owner from
  record_is h = let m = many_of U g n P in let z = record_found U owner from q (rw P.same at e) (omega arith) in omega arith

  pub record_zero : n ≤ q → 0 ≡ next_owned_from U owner from
  record_zero h = let m = many_of U g n P in sym (record_none U owner from q (rw P.same at e) (omega arith))
