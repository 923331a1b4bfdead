-- "Reached as": the relation of specs/Reached by chains, and the tests of specs/Refusals that decide it.
use mathlib.Core.Path.{◌≡◌, refl}
use mathlib.Core.Bool.{true}
use mathlib.Core.List.{List}
use mathlib.Core.Logic.{◌↔◌}
use Prim.Native.Nat.{ℕ, ◌+◌, ◌≤◌, ◌<◌}
use native.Mathlib.Omega.{arith}
use Rattle.lr1_base.specs.repr.Lists.{mem}
use Rattle.lr1_base.proofs.repr.Tests.{some?-below, some?-below_witness}
use Rattle.table.specs.Words.{word_at, records, states, productions, state_area, production_area, loose, loose_records, names, chain}
use Rattle.table.specs.Decoded.{symbol_chain, item_chain, edge_chain}
use Rattle.table.specs.Refusals.{as_symbol, as_item, as_edge}
use Rattle.table.specs.Reached.{Reached, head, next, reached_by}
use Rattle.table.proofs.Chains.{named, chain_induct, chain_first, chain-closed, loose-whole}

-- an index, held by record r, that names a loose record by the rule
pub record LooseNamed (t : List ℕ) (r x : ℕ) : Type 0 where
  pub inside : loose t ≤ x
  pub early : x < records t
  pub later : r < x
  pub some : x ≡ 0 → ⊥

pub loose-named : (t : List ℕ) (r x : ℕ) → names (loose_records t) r x ≡ true → LooseNamed t r x
unfolding loose_records
loose-named t r x e =
    let n = named (loose_records t) r x e in
    record { inside = n.inside; early = n.early; later = n.later; some = λ z. omega arith }

module _ {t : List ℕ} {first n k : ℕ} where
  -- what is reached is a loose record
  pub reached-loose : {r : ℕ} → Reached t first n k r → (loose t ≤ r) × (r < records t)
  reached-loose (head i x h e ne m) = let l = loose-named t (first + i) x m in (l.inside, l.early)
  reached-loose (next r x R e ne m) = let l = loose-named t r x m in (l.inside, l.early)

  pub reached : (r : ℕ) → reached_by t first n k r ≡ true → Reached t first n k r
  unfolding reached_by
  reached r e =
      let w = some?-below_witness (λ i. mem r (chain t (loose_records t) (first + i) (word_at t (first + i) k))) n e in
      chain_induct t (loose_records t) {P = Reached t first n k} (first + w.0) (word_at t (first + w.0) k)
      (λ ne m. head w.0 _ w.1 refl ne m) (λ z _ R ne m. next z _ R refl ne m) r w.2

  pub by_reached : {r : ℕ} → Reached t first n k r → reached_by t first n k r ≡ true
  unfolding reached_by
  by_reached (head i x h e ne m) =
      some?-below (λ j. mem x (chain t (loose_records t) (first + j) (word_at t (first + j) k))) n i h
      (rw (← e) (chain_first t (loose_records t) (loose-whole t) (first + i) x ne m))
  by_reached (next r x R e ne m) =
      let w = some?-below_witness (λ j. mem r (chain t (loose_records t) (first + j) (word_at t (first + j) k))) n (by_reached R) in
      some?-below (λ j. mem x (chain t (loose_records t) (first + j) (word_at t (first + j) k))) n w.0 w.1
      (rw e (chain-closed t (loose_records t) (loose-whole t) (first + w.0) (word_at t (first + w.0) k) r w.2 (rw e at ne) (rw e at m)))

-- the test decides the relation
pub reached_is : (t : List ℕ) (first n k r : ℕ) → (reached_by t first n k r ≡ true) ↔ Reached t first n k r
reached_is t first n k r = (reached r, by_reached)

-- as a symbol, an item, an edge
pub symbol_is : (t : List ℕ) (r : ℕ) → as_symbol t r ≡ reached_by t (production_area t) (productions t) 1 r
unfolding as_symbol symbol_chain reached_by
symbol_is t r = refl

pub item_is : (t : List ℕ) (r : ℕ) → as_item t r ≡ reached_by t (state_area t) (states t) 0 r
unfolding as_item item_chain reached_by
item_is t r = refl

pub edge_is_lem : (t : List ℕ) (r : ℕ) → as_edge t r ≡ reached_by t (state_area t) (states t) 1 r
unfolding as_edge edge_chain reached_by
edge_is_lem t r = refl

pub reached-symbol : (t : List ℕ) (r : ℕ) → (as_symbol t r ≡ true) ↔ Reached t (production_area t) (productions t) 1 r
reached-symbol t r = rw (symbol_is t r) (reached_is t (production_area t) (productions t) 1 r)

pub reached-item : (t : List ℕ) (r : ℕ) → (as_item t r ≡ true) ↔ Reached t (state_area t) (states t) 0 r
reached-item t r = rw (item_is t r) (reached_is t (state_area t) (states t) 0 r)

pub reached_edge : (t : List ℕ) (r : ℕ) → (as_edge t r ≡ true) ↔ Reached t (state_area t) (states t) 1 r
reached_edge t r = rw (edge_is_lem t r) (reached_is t (state_area t) (states t) 1 r)
