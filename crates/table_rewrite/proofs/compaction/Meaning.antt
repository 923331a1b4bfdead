-- Where the reached records are moved, the meaning is the same.
use mathlib.Core.Path.{◌≡◌, refl, sym, ap, ◌∙◌}
use mathlib.Core.Bool.{Bool, true}
use mathlib.Core.List.{List, [], ◌∷◌, ◌++◌, map}
use Prim.Native.Nat.{ℕ, ◌+◌, ◌<◌}
use native.Mathlib.Omega.{arith}
use borrow.Author.Tests.{ltb-true}
use Rattle.lr1_base.specs.repr.Lists.{below, mem, first?}
use Rattle.lr1_base.proofs.repr.Lists.{cases, mem-cons_here, mem-cons_there, mem_below}
use Rattle.lr1_base.proofs.repr.Tests.{some?-below, first?-yes, first?_no}
use Rattle.table.specs.Words.{nonterminals, states, productions, production_area}
use Rattle.table.specs.Decoded.{production_chain, symbol_chain, item_chain, edge_chain, symbol_at, item_at, edge_at, or_zero, owner_of, production_of, state_of, productions_of, meaning}
use Rattle.table.specs.Refusals.{as_symbol, as_item, as_edge}
use Rattle.table.proofs.Accepted.{Accepts, areas_of}
use Rattle.table_rewrite.specs.compaction.Compaction.{reached, moved}
use Rattle.table_rewrite.proofs.compaction.Moves.{MovedTo, as_symbol_lem, as_item_lem, as_edge_lem}
use Rattle.table_rewrite.proofs.compaction.Chains.{same_nonterminals, same_terminals, same_states, same_productions, same_production-area, symbol_chain_lem, item_chain_lem, edge_chain_lem, production_chain_lem}

-- functions that agree on a list

pub map-members {ℓ} : {B : Type ℓ} (f g : ℕ → B) (xs : List ℕ) → ((x : ℕ) → mem x xs ≡ true → f x ≡ g x) → map f xs ≡ map g xs
map-members f g [] h = refl
map-members f g (x ∷ xs) h = rw (h x (mem-cons_here x xs), map-members f g xs (λ y m. h y (mem-cons_there y x xs m)))

pub map_below {ℓ} : {B : Type ℓ} (f g : ℕ → B) (n : ℕ) → ((x : ℕ) → x < n → f x ≡ g x) → map f (below n) ≡ map g (below n)
map_below f g n h = map-members f g (below n) (λ x m. h x (ltb-true x n (sym (mem_below x n) ∙ m)))

pub map-through {ℓ} : {B : Type ℓ} (f : ℕ → ℕ) (g h : ℕ → B) (xs : List ℕ) → ((x : ℕ) → mem x xs ≡ true → g (f x) ≡ h x) → map g (map f xs) ≡ map h xs
map-through f g h [] e = refl
map-through f g h (x ∷ xs) e = rw (e x (mem-cons_here x xs), map-through f g h xs (λ y m. e y (mem-cons_there y x xs m)))

pub first-members : (f g : ℕ → Bool) (xs : List ℕ) → ((x : ℕ) → mem x xs ≡ true → f x ≡ g x) → first? f xs ≡ first? g xs
unfolding first?
first-members f g [] h = refl
first-members f g (x ∷ xs) h =
    let e = h x (mem-cons_here x xs) in
    cases (g x)
    (λ q. first?-yes f x xs (e ∙ q) ∙ sym (first?-yes g x xs q))
    (λ q. first?_no f x xs (e ∙ q) ∙ first-members f g xs (λ y m. h y (mem-cons_there y x xs m)) ∙ sym (first?_no g x xs q))

-- a member of a chain is reached as what the chain holds
module _ (t : List ℕ) where
  pub in_symbols : (p x : ℕ) → p < productions t → mem x (symbol_chain t p) ≡ true → as_symbol t x ≡ true
  unfolding as_symbol
  in_symbols p x h m = some?-below (λ q. mem x (symbol_chain t q)) (productions t) p h m

  pub in_items : (s x : ℕ) → s < states t → mem x (item_chain t s) ≡ true → as_item t x ≡ true
  unfolding as_item
  in_items s x h m = some?-below (λ q. mem x (item_chain t q)) (states t) s h m

  pub in_edges : (s x : ℕ) → s < states t → mem x (edge_chain t s) ≡ true → as_edge t x ≡ true
  unfolding as_edge
  in_edges s x h m = some?-below (λ q. mem x (edge_chain t q)) (states t) s h m

module _ (t u : List ℕ) (A : Accepts t) (M : MovedTo t u) where
  same_symbol : (x : ℕ) → reached t x ≡ true → symbol_at u (moved t x) ≡ symbol_at t x
  unfolding symbol_at
  same_symbol x e = rw (M.one x e, M.two x e)

  same_item_lem : (x : ℕ) → reached t x ≡ true → item_at u (moved t x) ≡ item_at t x
  unfolding item_at
  same_item_lem x e = rw (M.one x e, M.two x e)

  same_edge : (x : ℕ) → reached t x ≡ true → edge_at u (moved t x) ≡ edge_at t x
  unfolding edge_at
  same_edge x e = rw (M.one x e, M.two x e, M.three x e)

  symbols_same : (p : ℕ) → p < productions t → map (symbol_at u) (symbol_chain u p) ≡ map (symbol_at t) (symbol_chain t p)
  symbols_same p h =
      ap (map (symbol_at u)) (symbol_chain_lem t u A M p h)
      ∙ map-through (moved t) (symbol_at u) (symbol_at t) (symbol_chain t p) (λ x m. same_symbol x (as_symbol_lem t x (in_symbols t p x h m)))

  items_same : (s : ℕ) → s < states t → map (item_at u) (item_chain u s) ≡ map (item_at t) (item_chain t s)
  items_same s h =
      ap (map (item_at u)) (item_chain_lem t u A M s h)
      ∙ map-through (moved t) (item_at u) (item_at t) (item_chain t s) (λ x m. same_item_lem x (as_item_lem t x (in_items t s x h m)))

  edges_same : (s : ℕ) → s < states t → map (edge_at u) (edge_chain u s) ≡ map (edge_at t) (edge_chain t s)
  edges_same s h =
      ap (map (edge_at u)) (edge_chain_lem t u A M s h)
      ∙ map-through (moved t) (edge_at u) (edge_at t) (edge_chain t s) (λ x m. same_edge x (as_edge_lem t x (in_edges t s x h m)))

  state_same : (s : ℕ) → s < states t → state_of u s ≡ state_of t s
  unfolding state_of
  state_same s h = rw (items_same s h, edges_same s h)

  list_same : (n : ℕ) → n < nonterminals t → productions_of u n ≡ productions_of t n
  unfolding productions_of
  list_same n h = rw (same_production-area t u A M, production_chain_lem t u A M n h)

  owner_same : (p : ℕ) → owner_of u p ≡ owner_of t p
  unfolding owner_of
  owner_same p =
      rw (same_production-area t u A M, same_nonterminals t u A M)
      (ap or_zero (first-members (λ n. mem (production_area t + p) (production_chain u n)) (λ n. mem (production_area t + p) (production_chain t n)) (below (nonterminals t))
      (λ n m. ap (mem (production_area t + p)) (production_chain_lem t u A M n (ltb-true n (nonterminals t) (sym (mem_below n (nonterminals t)) ∙ m))))))

  production_same : (p : ℕ) → p < productions t → production_of u p ≡ production_of t p
  unfolding production_of
  production_same p h =
      let l = areas_of t in
      rw (owner_same p, symbols_same p h, same_production-area t u A M, M.stays_two (production_area t + p) (omega arith), M.stays_three (production_area t + p) (omega arith))

  pub moved-meaning : meaning u ≡ meaning t
  unfolding meaning
  moved-meaning =
      rw (
        same_terminals t u A M,
        same_nonterminals t u A M,
        same_productions t u A M,
        same_states t u A M,
        map_below (productions_of u) (productions_of t) (nonterminals t) list_same,
        map_below (production_of u) (production_of t) (productions t) production_same,
        map_below (state_of u) (state_of t) (states t) state_same,
      )
