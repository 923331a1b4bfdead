-- The two equations of each step of the enumeration (specs/trials/Trials), and how many nonterminals a walk may still enter.
use Rattle.std.proofs.Common.{◌≡◌, ℕ, zero, suc, ◌<◌, ◌≤◌, Bool, true, false, eqb, List, [], ◌∷◌, ◌++◌, map, refl, ap, ◌∙◌, arith, eqb-true}
use borrow.Author.Tests.{eqb-false}
use Rattle.lr1_base.specs.repr.Lists.{mem}
use Rattle.lr1_base.proofs.repr.Lists.{mem-yes, mem_no}
use Rattle.trace_graph.specs.Graph.{Node, at_nonterminal, is_same_node}
use Rattle.enumerator.specs.trials.Trials.{Path, Ends, level, within, walk_fuel}

module _ (G : Ends) where
  pub level-hit : (ch : ℕ → List Path) (v : Node) (k : ℕ) → is_same_node (G.target k) v ≡ true
      → level G ch v (suc k) ≡ (k ∷ []) ∷ (map (λ p. k ∷ p) (ch k) ++ level G ch v k)
  level-hit ch v k e = rw (e, level)

  pub level_miss : (ch : ℕ → List Path) (v : Node) (k : ℕ) → is_same_node (G.target k) v ≡ false → level G ch v (suc k) ≡ level G ch v k
  level_miss ch v k e = rw (e, level)

pub within_on : (n : ℕ) (us : List ℕ) (go : List ℕ → Node → List Path) → mem n us ≡ true → within us go (at_nonterminal n) ≡ []
within_on n us go m = rw (m, within)

pub within_in : (n : ℕ) (us : List ℕ) (go : List ℕ → Node → List Path) → mem n us ≡ false → within us go (at_nonterminal n) ≡ go (n ∷ us) (at_nonterminal n)
within_in n us go m = rw (m, within)

-- how many of the numbers below n are not in the list
abbrev pub bump : Bool → ℕ → ℕ
bump true x = x
bump false x = suc x

unfoldable pub free : ℕ → List ℕ → ℕ
free zero us = zero
free (suc n) us = bump (mem n us) (free n us)

bump_le : (b : Bool) (x y : ℕ) → x ≤ y → bump b x ≤ bump b y
bump_le true x y h = h
bump_le false x y h = omega arith

bump-true : (b : Bool) (x y : ℕ) → x ≤ y → x ≤ bump b y
bump-true true x y h = h
bump-true false x y h = omega arith

bump_lt : (b : Bool) (x y : ℕ) → x < y → bump b x < bump b y
bump_lt true x y h = h
bump_lt false x y h = omega arith

free_le : (n : ℕ) (us : List ℕ) (k : ℕ) → free k (n ∷ us) ≤ free k us
unfolding free
free_le n us zero = omega arith
free_le n us (suc k) = by (free_le n us k) (eqb k n) refl
  where
    by : free k (n ∷ us) ≤ free k us → (b : Bool) → eqb k n ≡ b → bump (mem k (n ∷ us)) (free k (n ∷ us)) ≤ bump (mem k us) (free k us)
    by ih true e = rw (mem-yes k n us e) (bump-true (mem k us) (free k (n ∷ us)) (free k us) ih)
    by ih false e = rw (mem_no k n us e) (bump_le (mem k us) (free k (n ∷ us)) (free k us) ih)

-- to enter a nonterminal that is not on the walk takes one from those that are left
pub free_lt : (n : ℕ) (us : List ℕ) → mem n us ≡ false → (k : ℕ) → n < k → free k (n ∷ us) < free k us
unfolding free
free_lt n us m zero h = omega arith
free_lt n us m (suc k) h = by (free_lt n us m k) (eqb k n) refl
  where
    by : (n < k → free k (n ∷ us) < free k us) → (b : Bool) → eqb k n ≡ b → bump (mem k (n ∷ us)) (free k (n ∷ us)) < bump (mem k us) (free k us)
    by ih true e =
        let q = eqb-true k n e in
        let l = free_le n us k in
        rw (mem-yes k n us e) (rw (ap (λ x. mem x us) q ∙ m) (omega arith))
    by ih false e =
        let q = eqb-false k n e in
        rw (mem_no k n us e) (bump_lt (mem k us) (free k (n ∷ us)) (free k us) (ih (apart q)))
      where
        apart : (k ≡ n → ⊥) → n < k
        apart q = omega arith

-- 32 nonterminals at most
pub free_all : free 32 [] < walk_fuel
unfolding free mem
free_all = omega arith
