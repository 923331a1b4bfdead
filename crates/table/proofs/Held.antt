-- The records that chains from a number of heads hold, and so what is reached as a symbol, an item, an edge in an accepted table.
use mathlib.Core.Path.{◌≡◌}
use mathlib.Core.Bool.{Bool, true, false}
use mathlib.Core.List.{List}
use Prim.Native.Nat.{ℕ, ◌+◌, ◌≤◌, ◌<◌}
use native.Mathlib.Omega.{arith}
use lib.Dec.{eqb}
use borrow.Author.Tests.{eqb-true, eqb-false}
use Rattle.lr1_base.specs.repr.Sizes.{record_limit}
use Rattle.lr1_base.specs.repr.Lists.{below, mem, some?}
use Rattle.lr1_base.proofs.repr.Lists.{cases}
use Rattle.lr1_base.proofs.repr.Tests.{some?-below, some?-below_witness}
use Rattle.table.specs.Words.{word_at, records, states, productions, state_area, production_area, loose, loose_records, against, chain}
use Rattle.table.specs.Decoded.{symbol_chain, item_chain, edge_chain}
use Rattle.table.specs.Refusals.{as_symbol, as_item, as_edge}
use Rattle.table.proofs.Chains.{Named, named, good_of, chain_member, chain_first, chain-closed, loose-whole}
use Rattle.table.proofs.Accepted.{Accepts, item-head, edge_head, symbol-head, item-next, edge_next, symbol-next}

loose-named : (t : List ℕ) (r x : ℕ) → Named (loose_records t) r x → (loose t ≤ x) × (x < records t) × (r < x)
unfolding loose_records
loose-named t r x n = (n.inside, n.early, n.later)

-- from the head of each of n holders
module _ (t : List ℕ) (holder head : ℕ → ℕ) (n : ℕ) where
  abbrev pub Held : ℕ → Bool
  Held r = some? (λ i. mem r (chain t (loose_records t) (holder i) (head i))) (below n)

  held-inside : (r : ℕ) → Held r ≡ true → (loose t ≤ r) × (r < records t)
  held-inside r e =
      let w = some?-below_witness (λ i. mem r (chain t (loose_records t) (holder i) (head i))) n e in
      let l = loose-named t (holder w.0) r (chain_member t (loose_records t) (holder w.0) (head w.0) r w.2) in
      (l.0, l.1)

  held_first : (i : ℕ) → i < n → against (loose_records t) (holder i) (head i) ≡ false → (head i ≡ 0 → ⊥) → Held (head i) ≡ true
  held_first i h e ne =
      some?-below (λ k. mem (head i) (chain t (loose_records t) (holder k) (head k))) n i h
      (chain_first t (loose_records t) (loose-whole t) (holder i) (head i) ne (good_of (loose_records t) (holder i) (head i) e ne))

  held_next : (r : ℕ) → Held r ≡ true → against (loose_records t) r (word_at t r 0) ≡ false → (word_at t r 0 ≡ 0 → ⊥) → Held (word_at t r 0) ≡ true
  held_next r m e ne =
      let w = some?-below_witness (λ i. mem r (chain t (loose_records t) (holder i) (head i))) n m in
      some?-below (λ k. mem (word_at t r 0) (chain t (loose_records t) (holder k) (head k))) n w.0 w.1
      (chain-closed t (loose_records t) (loose-whole t) (holder w.0) (head w.0) r w.2 ne (good_of (loose_records t) r (word_at t r 0) e ne))

-- a record that is reached stands in the loose area

module _ (t : List ℕ) (r : ℕ) where
  pub symbol-inside : as_symbol t r ≡ true → (loose t ≤ r) × (r < records t)
  unfolding as_symbol symbol_chain
  symbol-inside e = held-inside t (λ p. production_area t + p) (λ p. word_at t (production_area t + p) 1) (productions t) r e

  pub item-inside : as_item t r ≡ true → (loose t ≤ r) × (r < records t)
  unfolding as_item item_chain
  item-inside e = held-inside t (λ s. state_area t + s) (λ s. word_at t (state_area t + s) 0) (states t) r e

  pub edge_inside : as_edge t r ≡ true → (loose t ≤ r) × (r < records t)
  unfolding as_edge edge_chain
  edge_inside e = held-inside t (λ s. state_area t + s) (λ s. word_at t (state_area t + s) 1) (states t) r e

  pub symbol_of_lem : (p : ℕ) → p < productions t → mem r (symbol_chain t p) ≡ true → as_symbol t r ≡ true
  unfolding as_symbol
  symbol_of_lem p h m = some?-below (λ p. mem r (symbol_chain t p)) (productions t) p h m

  pub item_of : (s : ℕ) → s < states t → mem r (item_chain t s) ≡ true → as_item t r ≡ true
  unfolding as_item
  item_of s h m = some?-below (λ s. mem r (item_chain t s)) (states t) s h m

  pub edge_of : (s : ℕ) → s < states t → mem r (edge_chain t s) ≡ true → as_edge t r ≡ true
  unfolding as_edge
  edge_of s h m = some?-below (λ s. mem r (edge_chain t s)) (states t) s h m

-- in an accepted table heads and next indexes are 0 or reached

module _ (t : List ℕ) (A : Accepts t) where
  pub symbol-first_as : (p : ℕ) → p < productions t → (word_at t (production_area t + p) 1 ≡ 0 → ⊥) → as_symbol t (word_at t (production_area t + p) 1) ≡ true
  unfolding as_symbol symbol_chain
  symbol-first_as p h ne = held_first t (λ p. production_area t + p) (λ p. word_at t (production_area t + p) 1) (productions t) p h (symbol-head t A p h) ne

  pub item-first_as : (s : ℕ) → s < states t → (word_at t (state_area t + s) 0 ≡ 0 → ⊥) → as_item t (word_at t (state_area t + s) 0) ≡ true
  unfolding as_item item_chain
  item-first_as s h ne = held_first t (λ s. state_area t + s) (λ s. word_at t (state_area t + s) 0) (states t) s h (item-head t A s h) ne

  pub edge_first_as : (s : ℕ) → s < states t → (word_at t (state_area t + s) 1 ≡ 0 → ⊥) → as_edge t (word_at t (state_area t + s) 1) ≡ true
  unfolding as_edge edge_chain
  edge_first_as s h ne = held_first t (λ s. state_area t + s) (λ s. word_at t (state_area t + s) 1) (states t) s h (edge_head t A s h) ne

  -- the next index of a record that is reached is not against the rule
  pub symbol_on : (r : ℕ) → as_symbol t r ≡ true → against (loose_records t) r (word_at t r 0) ≡ false
  symbol_on r e = symbol-next t A r (symbol-inside t r e).1 e

  pub item_on : (r : ℕ) → as_item t r ≡ true → against (loose_records t) r (word_at t r 0) ≡ false
  item_on r e = item-next t A r (item-inside t r e).1 e

  pub edge_on : (r : ℕ) → as_edge t r ≡ true → against (loose_records t) r (word_at t r 0) ≡ false
  edge_on r e = edge_next t A r (edge_inside t r e).1 e

  pub symbol-next_as : (r : ℕ) → as_symbol t r ≡ true → (word_at t r 0 ≡ 0 → ⊥) → as_symbol t (word_at t r 0) ≡ true
  unfolding as_symbol symbol_chain
  symbol-next_as r e ne = held_next t (λ p. production_area t + p) (λ p. word_at t (production_area t + p) 1) (productions t) r e (symbol_on r e) ne

  pub item-next_as : (r : ℕ) → as_item t r ≡ true → (word_at t r 0 ≡ 0 → ⊥) → as_item t (word_at t r 0) ≡ true
  unfolding as_item item_chain
  item-next_as r e ne = held_next t (λ s. state_area t + s) (λ s. word_at t (state_area t + s) 0) (states t) r e (item_on r e) ne

  pub edge_next_as : (r : ℕ) → as_edge t r ≡ true → (word_at t r 0 ≡ 0 → ⊥) → as_edge t (word_at t r 0) ≡ true
  unfolding as_edge edge_chain
  edge_next_as r e ne = held_next t (λ s. state_area t + s) (λ s. word_at t (state_area t + s) 1) (states t) r e (edge_on r e) ne

  -- an index that is not against the rule is small, and larger than its holder where it is not 0
  pub loose_small : (r x : ℕ) → against (loose_records t) r x ≡ false → x < record_limit
  loose_small r x e =
      cases (eqb x 0)
      (λ q. let z = eqb-true x 0 q in omega arith)
      (λ q. let n = loose-named t r x (named (loose_records t) r x (good_of (loose_records t) r x e (eqb-false x 0 q))) in omega arith)

  pub loose-later : (r x : ℕ) → against (loose_records t) r x ≡ false → (x ≡ 0 → ⊥) → r < x
  loose-later r x e ne = (named (loose_records t) r x (good_of (loose_records t) r x e ne)).later
