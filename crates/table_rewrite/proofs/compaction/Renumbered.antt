-- The key law: a renumbering that rises strictly on reached records and fixes 0 turns a chain into the renumbered chain.
use mathlib.Core.Path.{◌≡◌, refl, sym, ap, ◌∙◌}
use mathlib.Core.Bool.{true, false}
use mathlib.Core.List.{List, ◌∷◌, map}
use Prim.Native.Nat.{ℕ, zero, suc, ◌+◌, ◌≤◌, ◌<◌}
use native.Mathlib.Omega.{arith}
use lib.Dec.{eqb}
use borrow.Author.Tests.{eqb-true, eqb-false}
use Rattle.lr1_base.proofs.repr.Lists.{cases}
use Rattle.table.specs.Words.{word_at, records, Area, names, against, chain_by, chain}
use Rattle.table.proofs.Chains.{named, names_good, against_good, against-zero, good_of, by_none, by_step, chain_end, chain-step, chain-whole}

-- `go` takes the records R of table t (in area a) to records of table u (in area b), next indexes and order with them
pub record Renumbers (t u : List ℕ) (a b : Area) (R : ℕ → Type 0) (go : ℕ → ℕ) : Type 0 where
  pub whole : a.past ≤ records t
  pub whole' : b.past ≤ records u
  pub zero : go 0 ≡ 0
  pub some : (x : ℕ) → R x → go x ≡ 0 → ⊥
  pub inside : (x : ℕ) → R x → b.from ≤ go x
  pub early : (x : ℕ) → R x → go x < b.past
  pub rises : (x y : ℕ) → R x → R y → x < y → go x < go y
  pub good : (x : ℕ) → R x → against a x (word_at t x 0) ≡ false
  pub closed : (x : ℕ) → R x → (word_at t x 0 ≡ 0 → ⊥) → R (word_at t x 0)
  pub next : (x : ℕ) → R x → word_at u (go x) 0 ≡ go (word_at t x 0)

module _ {t u : List ℕ} {a b : Area} {R : ℕ → Type 0} {go : ℕ → ℕ} (G : Renumbers t u a b R go) where
  -- from a good index on
  pub chain_renumbered : (m r r' x : ℕ) → a.past ≤ m + x → R x → (x ≡ 0 → ⊥) → names a r x ≡ true → names b r' (go x) ≡ true
      → chain u b r' (go x) ≡ map go (chain t a r x)
  chain_renumbered zero r r' x h k ne e e' = let n = named a r x e in absurd (omega arith)
  chain_renumbered (suc m) r r' x h k ne e e' =
      let y : ℕ = word_at t x 0 in
      let n = named a r x e in
      chain-step u b G.whole' r' (go x) (G.some x k) e'
      ∙ ap (λ (z : ℕ). go x ∷ chain u b (go x) z) (G.next x k)
      ∙ ap (λ (l : List ℕ). go x ∷ l) (cases (eqb (word_at t x 0) 0)
      (λ q.
      let z = eqb-true (word_at t x 0) 0 q in
      ap (λ (w : ℕ). chain u b (go x) (go w)) z
      ∙ ap (chain u b (go x)) G.zero
      ∙ chain_end u b (go x)
      ∙ sym (ap (map go) (ap (chain t a x) z ∙ chain_end t a x)))
      (λ q.
      let ny = eqb-false (word_at t x 0) 0 q in
      let g = good_of a x (word_at t x 0) (G.good x k) ny in
      let l = named a x (word_at t x 0) g in
      let ky = G.closed x k ny in
      chain_renumbered m x (go x) (word_at t x 0) (omega (arith, l.later)) ky ny g
      (names_good b (go x) (go (word_at t x 0)) (G.inside _ ky) (G.early _ ky) (G.rises x (word_at t x 0) k ky l.later))))
      ∙ sym (ap (map go) (chain-step t a G.whole r x ne e))

  -- from any index that keeps the rule: 0, or a reached record
  pub head_renumbered : (r r' x : ℕ) → against a r x ≡ false → ((x ≡ 0 → ⊥) → R x × (r' < go x)) → chain u b r' (go x) ≡ map go (chain t a r x)
  head_renumbered r r' x e h =
      cases (eqb x 0)
      (λ q.
      let z = eqb-true x 0 q in
      ap (λ (w : ℕ). chain u b r' (go w)) z
      ∙ ap (chain u b r') G.zero
      ∙ chain_end u b r'
      ∙ sym (ap (map go) (ap (chain t a r) z ∙ chain_end t a r)))
      (λ q.
      let ne = eqb-false x 0 q in
      let k = h ne in
      chain_renumbered a.past r r' x (omega arith) k.0 ne (good_of a r x e ne)
      (names_good b r' (go x) (G.inside x k.0) (G.early x k.0) k.1))

  -- and the new index keeps the rule
  pub index_renumbered : (r r' x : ℕ) → ((x ≡ 0 → ⊥) → R x × (r' < go x)) → against b r' (go x) ≡ false
  index_renumbered r r' x h =
      cases (eqb x 0)
      (λ q. let z = eqb-true x 0 q in ap (λ (w : ℕ). against b r' (go w)) z ∙ ap (against b r') G.zero ∙ against-zero b r')
      (λ q.
      let k = h (eqb-false x 0 q) in
      against_good b r' (go x) (names_good b r' (go x) (G.inside x k.0) (G.early x k.0) k.1))

-- two tables with the same next indexes in an area have the same chains there
by_agree : (f : ℕ) (t u : List ℕ) (a : Area) (r x : ℕ) → ((y : ℕ) → a.from ≤ y → y < a.past → word_at u y 0 ≡ word_at t y 0) → chain_by f u a r x ≡ chain_by f t a r x
unfolding chain_by
by_agree zero t u a r x h = refl
by_agree (suc f) t u a r x h =
    cases (names a r x)
    (λ e.
    cases (eqb x 0)
    (λ q. rw (eqb-true x 0 q, chain_by))
    (λ q.
    let n = named a r x e in
    by_step f u a r x (eqb-false x 0 q) e
    ∙ ap (λ (w : ℕ). x ∷ chain_by f u a x w) (h x n.inside n.early)
    ∙ ap (λ (l : List ℕ). x ∷ l) (by_agree f t u a x (word_at t x 0) h)
    ∙ sym (by_step f t a r x (eqb-false x 0 q) e)))
    (λ e. by_none (suc f) u a r x e ∙ sym (by_none (suc f) t a r x e))

pub chain_agree : (t u : List ℕ) (a : Area) (r x : ℕ) → a.past ≤ records t → a.past ≤ records u → ((y : ℕ) → a.from ≤ y → y < a.past → word_at u y 0 ≡ word_at t y 0)
    → chain u a r x ≡ chain t a r x
chain_agree t u a r x h k e =
    chain-whole (records t + records u) u a r x k (omega arith)
    ∙ by_agree (records t + records u) t u a r x e
    ∙ sym (chain-whole (records t + records u) t a r x h (omega arith))
