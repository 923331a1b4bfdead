-- A record that is reached in a spelling: which element of which chain it is. And every index of a spelling keeps the rule.
use mathlib.Core.Path.{◌≡◌, refl, sym, ap, ◌∙◌}
use mathlib.Core.Bool.{true, false, not}
use mathlib.Core.List.{List, [], ◌∷◌}
use mathlib.Core.Option.{Option, none, some}
use Prim.Native.Nat.{ℕ, suc, ◌+◌, ◌-◌, ◌≤◌, ◌<◌}
use native.Mathlib.Omega.{arith}
use lib.ListN.{length, get_or, drop, length-drop}
use lib.Dec.{ltb}
use borrow.Author.Tests.{ltb-true, ltb-false, not-true}
use Rattle.lr1_base.specs.repr.Lists.{up_from, mem, first?}
use Rattle.lr1_base.specs.repr.Meaning.{Table, production_at, state_at}
use Rattle.lr1_base.proofs.repr.Lists.{mem-up_from, length-up_from, get_d_up_from}
use Rattle.lr1_base.proofs.repr.Tests.{some?-below_witness, first?_at}
use Rattle.table.specs.Words.{word_at, productions, states, loose_records, production_records, against}
use Rattle.table.specs.Decoded.{symbol_chain, item_chain, edge_chain}
use Rattle.table.specs.Refusals.{as_symbol, as_item, as_edge}
use Rattle.table.proofs.Chains.{names_good, against-zero, against_good}
use Rattle.table.specs.Quads.{Quad, no_quad}
use Rattle.table_rewrite.specs.spelling.Spelled.{head_of, place_of, symbol_quad, item_quad, edge_quad, symbol_lists, item_lists, edge_lists, productions_at, symbols_at, items_place, edges_at, records_of, owns, record_or, next_owned_from, quads, spell}
use Rattle.table_rewrite.proofs.spelling.Places.{begins, Within, symbols_stand, items_stand, edges_stand, symbols-within, items_within, edges_within, spell_next, spell-states, spell-productions, spell-production_area, spell-loose, spell-records}
use Rattle.table_rewrite.proofs.spelling.Chains.{laid_at, symbol_chain_lem, item_chain_lem, edge_chain_lem}
use Rattle.table_rewrite.proofs.spelling.Meaning.{no_symbol, no_item, no_edge}
use Rattle.lr1_base.proofs.laws.Bools.{and-true}

-- indexes

module _ (T : Table) where
  -- of a chain of loose records
  pub head-good {ℓ} : {A : Type ℓ} (r o : ℕ) (xs : List A) → r < o → symbols_at T ≤ o → o + length xs ≤ records_of T → against (loose_records (spell T)) r (head_of o xs) ≡ false
  unfolding head_of loose_records
  head-good r o [] h l m = against-zero (loose_records (spell T)) r
  head-good r o (x ∷ xs) h l m =
      let a = spell-loose T in
      let b = spell-records T in
      against_good (loose_records (spell T)) r o (names_good (loose_records (spell T)) r o (omega arith) (omega arith) h)

  -- of a chain of productions
  pub owned_good : (n p r : ℕ) → p ≤ length T.productions → r < productions_at T + p → against (production_records (spell T)) r (next_owned_from T n p) ≡ false
  unfolding next_owned_from record_or production_records
  owned_good n p r h l = go (first? (owns T n) (up_from p (length T.productions - p))) refl
    where
      go : (o : Option ℕ) → first? (owns T n) (up_from p (length T.productions - p)) ≡ o → against (production_records (spell T)) r (next_owned_from T n p) ≡ false
      go none e = rw (e, next_owned_from, record_or) (against-zero (production_records (spell T)) r)
      go (some q) e =
          let w = first?_at (owns T n) (up_from p (length T.productions - p)) q 0 e in
          let c = length-up_from p (length T.productions - p) in
          let i : w.0 < length T.productions - p = omega (arith, w.1) in
          let g : p + w.0 ≡ q = sym (get_d_up_from p (length T.productions - p) w.0 0 i) ∙ w.2 in
          let b = begins T in
          let s = spell-loose T in
          let a = spell-production_area T in
          rw (e, record_or) (against_good (production_records (spell T)) r (productions_at T + q)
          (names_good (production_records (spell T)) r (productions_at T + q) (omega arith) (omega arith) (omega arith)))

-- what stands in a record that a chain reaches

pub record Here {ℓ} {A : Type ℓ} (T : Table) (f : ℕ → A → Quad) (d : A) (xs : List A) (r : ℕ) : Type ℓ where
  pub begin : ℕ
  pub index : ℕ
  pub inside : index < length xs
  pub is : r ≡ begin + index
  pub within : Within T begin (length xs)
  pub quad : get_or (quads T) r no_quad ≡ f (head_of (begin + suc index) (drop (suc index) xs)) (get_or xs index d)

pub mem_up : (r o n : ℕ) → mem r (up_from o n) ≡ true → (o ≤ r) × (r < o + n)
mem_up r o n m =
    let p = and-true (not (ltb r o)) (ltb r (o + n)) (sym (mem-up_from r o n) ∙ m) in
    (ltb-false r o (not-true (ltb r o) p.0), ltb-true r (o + n) p.1)

module _ (T : Table) (r : ℕ) where
  pub symbol_here : as_symbol (spell T) r ≡ true → (p : ℕ) × (p < length T.productions) × Here T symbol_quad no_symbol (production_at T p).symbols r
  unfolding as_symbol
  symbol_here e =
      let w = some?-below_witness (λ p. mem r (symbol_chain (spell T) p)) (productions (spell T)) e in
      let p = w.0 in
      let h : p < length T.productions = omega (arith, w.1, spell-productions T) in
      let o = place_of (symbols_at T) (symbol_lists T) p in
      let m = mem_up r o (length (production_at T p).symbols) (sym (ap (mem r) (symbol_chain_lem T p h)) ∙ w.2) in
      let i : r - o < length (production_at T p).symbols = omega (arith, m.0, m.1) in
      let q : r ≡ o + (r - o) = omega (arith, m.0) in (
        p,
        h,
        record {
          begin = o;
          index = r - o;
          inside = i;
          is = q;
          within = symbols-within T p h;
          quad = ap (λ (k : ℕ). get_or (quads T) k no_quad) q ∙ laid_at symbol_quad T o (production_at T p).symbols (symbols_stand T p h) (r - o) no_symbol i;
        },
      )

  pub item_here : as_item (spell T) r ≡ true → (s : ℕ) × (s < length T.states) × Here T item_quad no_item (state_at T s).items r
  unfolding as_item
  item_here e =
      let w = some?-below_witness (λ s. mem r (item_chain (spell T) s)) (states (spell T)) e in
      let s = w.0 in
      let h : s < length T.states = omega (arith, w.1, spell-states T) in
      let o = place_of (items_place T) (item_lists T) s in
      let m = mem_up r o (length (state_at T s).items) (sym (ap (mem r) (item_chain_lem T s h)) ∙ w.2) in
      let i : r - o < length (state_at T s).items = omega (arith, m.0, m.1) in
      let q : r ≡ o + (r - o) = omega (arith, m.0) in (
        s,
        h,
        record {
          begin = o;
          index = r - o;
          inside = i;
          is = q;
          within = items_within T s h;
          quad = ap (λ (k : ℕ). get_or (quads T) k no_quad) q ∙ laid_at item_quad T o (state_at T s).items (items_stand T s h) (r - o) no_item i;
        },
      )

  pub edge_here : as_edge (spell T) r ≡ true → (s : ℕ) × (s < length T.states) × Here T edge_quad no_edge (state_at T s).edges r
  unfolding as_edge
  edge_here e =
      let w = some?-below_witness (λ s. mem r (edge_chain (spell T) s)) (states (spell T)) e in
      let s = w.0 in
      let h : s < length T.states = omega (arith, w.1, spell-states T) in
      let o = place_of (edges_at T) (edge_lists T) s in
      let m = mem_up r o (length (state_at T s).edges) (sym (ap (mem r) (edge_chain_lem T s h)) ∙ w.2) in
      let i : r - o < length (state_at T s).edges = omega (arith, m.0, m.1) in
      let q : r ≡ o + (r - o) = omega (arith, m.0) in (
        s,
        h,
        record {
          begin = o;
          index = r - o;
          inside = i;
          is = q;
          within = edges_within T s h;
          quad = ap (λ (k : ℕ). get_or (quads T) k no_quad) q ∙ laid_at edge_quad T o (state_at T s).edges (edges_stand T s h) (r - o) no_edge i;
        },
      )

  -- its next index keeps the rule
  pub next-good {ℓ} : {A : Type ℓ} (f : ℕ → A → Quad) (d : A) (xs : List A) → ((n : ℕ) (x : A) → (f n x).next ≡ n) → Here T f d xs r → against (loose_records (spell T)) r (word_at (spell T) r 0) ≡ false
  next-good f d xs keeps H =
      let i = H.index in
      let o = H.begin in
      let l = length-drop (suc H.index) xs in
      rw (spell_next T r (f (head_of (o + suc i) (drop (suc i) xs)) (get_or xs i d)) H.quad ∙ keeps (head_of (o + suc i) (drop (suc i) xs)) (get_or xs i d))
      (head-good T r (o + suc i) (drop (suc i) xs) (omega (arith, H.is)) (omega (arith, H.within.after)) (omega (arith, H.within.before, H.inside)))
