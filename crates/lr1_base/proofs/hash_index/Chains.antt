-- Laws of the chains (specs/hash_index/Chains): the elements that pass a test, the links along them, and an element put in front.
use Rattle.std.proofs.Common.{◌≡◌, ℕ, zero, suc, ◌+◌, ◌<◌, ◌≤◌, Bool, true, false, List, [], ◌∷◌, length, get_or, set, sym, refl, ap, ◌∙◌, arith, length-set, get_or-set_other, get_or-set_same}
use Rattle.lr1_base.proofs.repr.Lists.{cases}
use Rattle.lr1_base.specs.hash_index.Chains.{newest, Linked, chained}

-- the elements that pass a test

module _ (u : ℕ → Bool) where
  pub newest-none : newest u 0 ≡ []
  unfolding newest
  newest-none = refl

  pub newest-yes : (k : ℕ) → u k ≡ true → newest u (suc k) ≡ k ∷ newest u k
  unfolding newest
  newest-yes k e = rw (e, newest)

  pub newest_no : (k : ℕ) → u k ≡ false → newest u (suc k) ≡ newest u k
  unfolding newest
  newest_no k e = rw (e, newest)

-- tests that agree below k
pub newest-kept : (u u' : ℕ → Bool) (k : ℕ) → ((j : ℕ) → j < k → u' j ≡ u j) → newest u' k ≡ newest u k
newest-kept u u' zero h = newest-none u' ∙ sym (newest-none u)
newest-kept u u' (suc k) h =
    let rest = newest-kept u u' k (λ j l. h j (omega arith)) in
    let t = h k (omega arith) in
    cases (u k)
    (λ s. newest-yes u' k (t ∙ s) ∙ rw rest (sym (newest-yes u k s)))
    (λ s. newest_no u' k (t ∙ s) ∙ rest ∙ sym (newest_no u k s))

-- links

module _ (ix : List ℕ) (links : ℕ) (u : ℕ → Bool) where
  pub linked_cons : (h k : ℕ) (ks : List ℕ) → Linked ix links h (k ∷ ks) → (h ≡ suc k) × Linked ix links (get_or ix (links + k) 0) ks
  unfolding Linked
  linked_cons h k ks l = l

  pub linked_nil : (h : ℕ) → Linked ix links h [] → h ≡ 0
  unfolding Linked
  linked_nil h l = l

  -- a link is to the latest element that passes
  pub linked_top : (h k : ℕ) → Linked ix links h (newest u k) → (h ≤ k) × (newest u k ≡ newest u h)
  linked_top h zero l = let z = linked_nil h (rw (newest-none u) at l) in (omega arith, ap (newest u) (sym z))
  linked_top h (suc k) l =
      cases (u k)
      (λ s. let e = (linked_cons h k (newest u k) (rw (newest-yes u k s) at l)).0 in (omega arith, ap (newest u) (sym e)))
      (λ s. let r = linked_top h k (rw (newest_no u k s) at l) in (omega (arith, r.0), newest_no u k s ∙ r.1))

  -- the link behind a link
  pub linked_step : (i : ℕ) → Linked ix links (suc i) (newest u (suc i)) → Linked ix links (get_or ix (links + i) 0) (newest u i)
  linked_step i l =
      cases (u i)
      (λ s. (linked_cons (suc i) i (newest u i) (rw (newest-yes u i s) at l)).1)
      (λ s. let r = linked_top (suc i) i (rw (newest_no u i s) at l) in absurd (omega (arith, r.0)))

-- links along elements below k that are unchanged
pub linked_kept : (ix ix' : List ℕ) (links : ℕ) (u : ℕ → Bool) (h k : ℕ) → ((j : ℕ) → j < k → get_or ix' (links + j) 0 ≡ get_or ix (links + j) 0) → Linked ix links h (newest u k) → Linked ix' links h (newest u k)
unfolding Linked
linked_kept ix ix' links u h zero f l = rw (newest-none u) (rw (newest-none u) at l)
linked_kept ix ix' links u h (suc k) f l =
    cases (u k)
    (λ s.
    let p = rw (newest-yes u k s) at l in
    rw (newest-yes u k s) (p.0, rw (f k (omega arith)) (linked_kept ix ix' links u (get_or ix (links + k) 0) k (λ j m. f j (omega arith)) p.1)))
    (λ s. rw (newest_no u k s) (linked_kept ix ix' links u h k (λ j m. f j (omega arith)) (rw (newest_no u k s) at l)))

-- an element put in front of a chain

module _ (ix : List ℕ) (links head k : ℕ) where
  pub chained_long : length (chained ix links head k) ≡ length ix
  unfolding chained
  chained_long = length-set (set ix (links + k) (get_or ix head 0)) head (k + 1) ∙ length-set ix (links + k) (get_or ix head 0)

  -- the other words
  pub chained-other : (i : ℕ) → (i ≡ head → ⊥) → (i ≡ links + k → ⊥) → get_or (chained ix links head k) i 0 ≡ get_or ix i 0
  unfolding chained
  chained-other i a b =
      get_or-set_other (set ix (links + k) (get_or ix head 0)) head i (k + 1) 0 a
      ∙ get_or-set_other ix (links + k) i (get_or ix head 0) 0 b

  -- the heads lie below the links, all within the words
  module _ (low : head < links) (room : links + k < length ix) where
    chained-head : get_or (chained ix links head k) head 0 ≡ suc k
    unfolding chained
    chained-head =
        get_or-set_same (set ix (links + k) (get_or ix head 0)) head (k + 1) 0 (rw (length-set ix (links + k) (get_or ix head 0)) (omega arith))
        ∙ omega arith

    chained_link : get_or (chained ix links head k) (links + k) 0 ≡ get_or ix head 0
    unfolding chained
    chained_link =
        get_or-set_other (set ix (links + k) (get_or ix head 0)) head (links + k) (k + 1) 0 (λ q. omega arith)
        ∙ get_or-set_same ix (links + k) (get_or ix head 0) 0 room

    -- the chain that element k joins
    pub chain_joined : (u : ℕ → Bool) → u k ≡ true → Linked ix links (get_or ix head 0) (newest u k)
        → Linked (chained ix links head k) links (get_or (chained ix links head k) head 0) (newest u (suc k))
    unfolding Linked
    chain_joined u s l =
        rw (newest-yes u k s) (chained-head, rw chained_link (linked_kept ix (chained ix links head k) links u (get_or ix head 0) k (λ j h. chained-other (links + j) (λ q. omega arith) (λ q. omega arith)) l))

    -- another chain by the same links
    pub chain_beside : (u : ℕ → Bool) (head' : ℕ) → head' < links → (head' ≡ head → ⊥) → u k ≡ false → Linked ix links (get_or ix head' 0) (newest u k)
        → Linked (chained ix links head k) links (get_or (chained ix links head k) head' 0) (newest u (suc k))
    chain_beside u head' h ne s l =
        rw (newest_no u k s, chained-other head' ne (λ q. omega arith)) (linked_kept ix (chained ix links head k) links u (get_or ix head' 0) k (λ j m. chained-other (links + j) (λ q. omega arith) (λ q. omega arith)) l)
