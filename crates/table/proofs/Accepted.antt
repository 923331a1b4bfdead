-- What an accepted table keeps: sizes, counts, and that no record offends against a row (specs/Refusals).
use mathlib.Core.Path.{◌≡◌, refl}
use mathlib.Core.Bool.{true, false, ◌&&◌, ◌||◌, not}
use mathlib.Core.List.{List, [], ◌∷◌}
use mathlib.Core.Option.{Option, none, some}
use Prim.Native.Nat.{ℕ, ◌+◌, ◌-◌, ◌*◌, ◌%◌, ◌≤◌, ◌<◌}
use native.Mathlib.Omega.{arith}
use lib.ListN.{length}
use lib.Dec.{eqb, ltb, leb}
use borrow.Author.Tests.{eqb-true, eqb-false, ltb-true, ltb-false, leb-true, leb-false, not-false, le-leb, lt-ltb}
use Rattle.lr1_base.specs.repr.Sizes.{record_limit}
use Rattle.lr1_base.specs.repr.Lists.{below, occurrences, joined, first?}
use Rattle.lr1_base.specs.repr.Listed.{symbol_is_fit}
use Rattle.lr1_base.proofs.repr.Lists.{cases}
use Rattle.lr1_base.proofs.repr.Tests.{first?-below-none}
use Rattle.table.specs.Checked.{Accepted}
use Rattle.table.specs.Words.{word_at, records, nonterminals, terminals, states, productions, state_area, production_area, loose, loose_records, production_records, against}
use Rattle.table.specs.Decoded.{production_chain, symbol_chain}
use Rattle.table.specs.Refusals.{row1, row2, row3, row4, row5, row6, row7, row8, is_nonterminal, is_state, is_production, as_symbol, as_item, as_edge, offends, first_row, check_of}
use Rattle.table.proofs.Chains.{or-false, or_left, or_right}
use Rattle.lr1_base.proofs.laws.Bools.{and-true, both, when}

-- no record of the table offends
pub record Accepts (t : List ℕ) : Type 0 where
  pub words : length t ≡ 4 * records t
  pub some_record : 0 < records t
  pub few_records : records t ≤ record_limit
  pub some-nonterminal : 1 ≤ nonterminals t
  pub few_nonterminals : nonterminals t ≤ 32
  pub few_terminals : terminals t ≤ 63
  pub some_state : 1 ≤ states t
  pub few_states : states t ≤ 128
  pub few_productions_lem : productions t ≤ 128
  pub areas : loose t ≤ records t
  pub none3 : (r : ℕ) → r < records t → row3 t r ≡ false
  pub none4 : (r : ℕ) → r < records t → row4 t r ≡ false
  pub none5 : (r : ℕ) → r < records t → row5 t r ≡ false
  pub none6 : (r : ℕ) → r < records t → row6 t r ≡ false
  pub none7 : (r : ℕ) → r < records t → row7 t r ≡ false
  pub none8 : (r : ℕ) → r < records t → row8 t r ≡ false

-- the rows one after the other

pub rows_first : (t : List ℕ) → check_of t ≡ Accepted → (row1 t ≡ false) × (row2 t ≡ false) × (first_row t (3 ∷ 4 ∷ 5 ∷ 6 ∷ 7 ∷ 8 ∷ []) ≡ Accepted)
unfolding check_of
rows_first t e =
    cases (row1 t)
    (λ q. let z : ◌≡◌ {A = ℕ} 0 1 = cc (rw (q, check_of) at e) in absurd (omega arith))
    (λ q.
    cases (row2 t)
    (λ k. let z : ◌≡◌ {A = ℕ} 0 1 = cc (rw (q, k, check_of) at e) in absurd (omega arith))
    (λ k. (q, k, rw (q, k, check_of) at e)))

row_none : (n : ℕ) (ns : List ℕ) (t : List ℕ) → first_row t (n ∷ ns) ≡ Accepted → (first? (offends n t) (below (records t)) ≡ none) × (first_row t ns ≡ Accepted)
unfolding first_row
row_none n ns t e = go (first? (offends n t) (below (records t))) refl
  where
    go : (o : Option ℕ) → first? (offends n t) (below (records t)) ≡ o → (first? (offends n t) (below (records t)) ≡ none) × (first_row t ns ≡ Accepted)
    go none q = (q, rw (q, first_row) at e)
    go (some r) q = let z : ◌≡◌ {A = ℕ} 0 1 = cc (rw (q, first_row) at e) in absurd (omega arith)

pub accepts : (t : List ℕ) → check_of t ≡ Accepted → Accepts t
unfolding offends row1 row2 records
accepts t e =
    let f = rows_first t e in
    let r3 = row_none 3 _ t f.2 in
    let r4 = row_none 4 _ t r3.1 in
    let r5 = row_none 5 _ t r4.1 in
    let r6 = row_none 6 _ t r5.1 in
    let r7 = row_none 7 _ t r6.1 in
    let r8 = row_none 8 _ t r7.1 in
    let a1 = or-false (eqb (length t) 0) _ f.0 in
    let a2 = or-false (not (eqb (length t % 4) 0)) (ltb 32768 (length t)) a1.1 in
    let b1 = or-false (eqb (nonterminals t) 0) _ f.1 in
    let b2 = or-false (ltb 32 (nonterminals t)) _ b1.1 in
    let b3 = or-false (ltb 63 (terminals t)) _ b2.1 in
    let b4 = or-false (eqb (states t) 0) _ b3.1 in
    let b5 = or-false (ltb 128 (states t)) _ b4.1 in
    let b6 = or-false (ltb 128 (productions t)) (ltb (records t) (loose t)) b5.1 in
    let some = eqb-false (length t) 0 a1.0 in
    let even = eqb-true (length t % 4) 0 (not-false (eqb (length t % 4) 0) a2.0) in
    let few = ltb-false 32768 (length t) a2.1 in
    let n0 = eqb-false (nonterminals t) 0 b1.0 in
    let s0 = eqb-false (states t) 0 b4.0 in
    record {
      words = omega arith;
      some_record = omega arith;
      few_records = omega arith;
      some-nonterminal = omega arith;
      few_nonterminals = ltb-false 32 (nonterminals t) b2.0;
      few_terminals = ltb-false 63 (terminals t) b3.0;
      some_state = omega arith;
      few_states = ltb-false 128 (states t) b5.0;
      few_productions_lem = ltb-false 128 (productions t) b6.0;
      areas = ltb-false (records t) (loose t) b6.1;
      none3 = λ r h. first?-below-none (offends 3 t) (records t) r r3.0 h;
      none4 = λ r h. first?-below-none (offends 4 t) (records t) r r4.0 h;
      none5 = λ r h. first?-below-none (offends 5 t) (records t) r r5.0 h;
      none6 = λ r h. first?-below-none (offends 6 t) (records t) r r6.0 h;
      none7 = λ r h. first?-below-none (offends 7 t) (records t) r r7.0 h;
      none8 = λ r h. first?-below-none (offends 8 t) (records t) r r8.0 h;
    }

-- what a record is, by its place

pub nonterminal-place : (t : List ℕ) (n : ℕ) → n < nonterminals t → is_nonterminal t (1 + n) ≡ true
unfolding is_nonterminal state_area
nonterminal-place t n h = both _ _ (le-leb 1 (1 + n) (omega arith)) (lt-ltb (1 + n) (1 + nonterminals t) (omega arith))

pub state_place : (t : List ℕ) (s : ℕ) → s < states t → is_state t (state_area t + s) ≡ true
unfolding is_state production_area
state_place t s h = both _ _ (le-leb (state_area t) (state_area t + s) (omega arith)) (lt-ltb (state_area t + s) (state_area t + states t) (omega arith))

pub production_place_lem : (t : List ℕ) (p : ℕ) → p < productions t → is_production t (production_area t + p) ≡ true
unfolding is_production loose
production_place_lem t p h =
    both _ _ (le-leb (production_area t) (production_area t + p) (omega arith)) (lt-ltb (production_area t + p) (production_area t + productions t) (omega arith))

pub production_in_lem : (t : List ℕ) (r : ℕ) → is_production t r ≡ true → (production_area t ≤ r) × (r < loose t)
unfolding is_production
production_in_lem t r e =
    let p = and-true (leb (production_area t) r) (ltb r (loose t)) e in
    (leb-true (production_area t) r p.0, ltb-true r (loose t) p.1)

pub record Areas (t : List ℕ) : Type 0 where
  pub state_area_lem : state_area t ≡ 1 + nonterminals t
  pub production_area_lem : production_area t ≡ 1 + nonterminals t + states t
  pub loose-area : loose t ≡ 1 + nonterminals t + states t + productions t

pub areas_of : (t : List ℕ) → Areas t
unfolding state_area production_area loose
areas_of t = record { state_area_lem = refl; production_area_lem = refl; loose-area = refl }

-- what the rows leave

-- row 3 by what holds the index
pub record Indexes (t : List ℕ) (r : ℕ) : Type 0 where
  pub of_nonterminal : is_nonterminal t r && against (production_records t) r (word_at t r 0) ≡ false
  pub of_state : is_state t r && (against (loose_records t) r (word_at t r 0) || against (loose_records t) r (word_at t r 1)) ≡ false
  pub of_production : is_production t r && (against (production_records t) r (word_at t r 0) || against (loose_records t) r (word_at t r 1)) ≡ false
  pub of_loose : (as_symbol t r || (as_item t r || as_edge t r)) && against (loose_records t) r (word_at t r 0) ≡ false

indexes : (t : List ℕ) (r : ℕ) → row3 t r ≡ false → Indexes t r
unfolding row3
indexes t r e =
    let a = or-false (is_nonterminal t r && against (production_records t) r (word_at t r 0)) _ e in
    let b = or-false (is_state t r && (against (loose_records t) r (word_at t r 0) || against (loose_records t) r (word_at t r 1))) _ a.1 in
    let c =
    or-false
    (is_production t r && (against (production_records t) r (word_at t r 0) || against (loose_records t) r (word_at t r 1)))
    ((as_symbol t r || (as_item t r || as_edge t r)) && against (loose_records t) r (word_at t r 0))
    b.1 in
    record { of_nonterminal = a.0; of_state = b.0; of_production = c.0; of_loose = c.1 }

module _ (t : List ℕ) (A : Accepts t) where
  pub nonterminal-head : (n : ℕ) → n < nonterminals t → against (production_records t) (1 + n) (word_at t (1 + n) 0) ≡ false
  nonterminal-head n h =
      let l = areas_of t in
      when _ _ (indexes t (1 + n) (A.none3 (1 + n) (omega arith))).of_nonterminal (nonterminal-place t n h)

  heads_of_state : (s : ℕ) → s < states t
      → (against (loose_records t) (state_area t + s) (word_at t (state_area t + s) 0) ≡ false) × (against (loose_records t) (state_area t + s) (word_at t (state_area t + s) 1) ≡ false)
  heads_of_state s h =
      let l = areas_of t in
      or-false _ _ (when _ _ (indexes t (state_area t + s) (A.none3 (state_area t + s) (omega arith))).of_state (state_place t s h))

  pub item-head : (s : ℕ) → s < states t → against (loose_records t) (state_area t + s) (word_at t (state_area t + s) 0) ≡ false
  item-head s h = (heads_of_state s h).0

  pub edge_head : (s : ℕ) → s < states t → against (loose_records t) (state_area t + s) (word_at t (state_area t + s) 1) ≡ false
  edge_head s h = (heads_of_state s h).1

  indexes_of_production : (r : ℕ) → is_production t r ≡ true
      → (against (production_records t) r (word_at t r 0) ≡ false) × (against (loose_records t) r (word_at t r 1) ≡ false)
  indexes_of_production r e =
      let i = production_in_lem t r e in
      or-false _ _ (when _ _ (indexes t r (A.none3 r (omega arith))).of_production e)

  pub production-next : (r : ℕ) → is_production t r ≡ true → against (production_records t) r (word_at t r 0) ≡ false
  production-next r e = (indexes_of_production r e).0

  pub symbol-head : (p : ℕ) → p < productions t → against (loose_records t) (production_area t + p) (word_at t (production_area t + p) 1) ≡ false
  symbol-head p h = (indexes_of_production (production_area t + p) (production_place_lem t p h)).1

  -- a loose record that is reached
  loose-next : (r : ℕ) → r < records t → (as_symbol t r || (as_item t r || as_edge t r)) ≡ true → against (loose_records t) r (word_at t r 0) ≡ false
  loose-next r h e = when _ _ (indexes t r (A.none3 r h)).of_loose e

  pub symbol-next : (r : ℕ) → r < records t → as_symbol t r ≡ true → against (loose_records t) r (word_at t r 0) ≡ false
  symbol-next r h e = loose-next r h (or_left _ _ e)

  pub item-next : (r : ℕ) → r < records t → as_item t r ≡ true → against (loose_records t) r (word_at t r 0) ≡ false
  item-next r h e = loose-next r h (or_right (as_symbol t r) _ (or_left _ _ e))

  pub edge_next : (r : ℕ) → r < records t → as_edge t r ≡ true → against (loose_records t) r (word_at t r 0) ≡ false
  edge_next r h e = loose-next r h (or_right (as_symbol t r) _ (or_right (as_item t r) _ e))

  -- a production in one chain, and short
  pub production-once : (p : ℕ) → p < productions t → occurrences (production_area t + p) (joined (production_chain t) (below (nonterminals t))) ≡ 1
  unfolding row4
  production-once p h =
      let l = areas_of t in
      let e = when _ _ (A.none4 (production_area t + p) (omega arith)) (production_place_lem t p h) in
      eqb-true _ 1 (not-false _ e)

  pub production_short : (p : ℕ) → p < productions t → length (symbol_chain t p) ≤ 16
  unfolding row5
  production_short p h =
      let l = areas_of t in
      let e = when _ _ (A.none5 (production_area t + p) (omega arith)) (production_place_lem t p h) in
      let d : production_area t + p - production_area t ≡ p = omega arith in
      rw d at (ltb-false 16 (length (symbol_chain t (production_area t + p - production_area t))) e)

  -- numbers in range
  in_range : (r : ℕ) → r < records t → (as_symbol t r || as_edge t r) ≡ true → symbol_is_fit (nonterminals t) (terminals t) (word_at t r 1) (word_at t r 2) ≡ true
  unfolding row6
  in_range r h e = not-false _ (when _ _ (A.none6 r h) e)

  pub symbol_range : (r : ℕ) → r < records t → as_symbol t r ≡ true → symbol_is_fit (nonterminals t) (terminals t) (word_at t r 1) (word_at t r 2) ≡ true
  symbol_range r h e = in_range r h (or_left _ _ e)

  pub edge_range : (r : ℕ) → r < records t → as_edge t r ≡ true → symbol_is_fit (nonterminals t) (terminals t) (word_at t r 1) (word_at t r 2) ≡ true
  edge_range r h e = in_range r h (or_right (as_symbol t r) _ e)

  pub item_range : (r : ℕ) → r < records t → as_item t r ≡ true → (word_at t r 1 < productions t) × (word_at t r 2 ≤ length (symbol_chain t (word_at t r 1)))
  unfolding row7
  item_range r h e =
      let d = or-false _ _ (A.none7 r h) in
      let q = or-false _ _ (when _ _ d.0 e) in
      (leb-false (productions t) (word_at t r 1) q.0, ltb-false (length (symbol_chain t (word_at t r 1))) (word_at t r 2) q.1)

  pub target_range : (r : ℕ) → r < records t → as_edge t r ≡ true → word_at t r 3 < states t
  unfolding row7
  target_range r h e =
      let d = or-false (as_item t r && (leb (productions t) (word_at t r 1) || ltb (length (symbol_chain t (word_at t r 1))) (word_at t r 2))) _ (A.none7 r h) in
      leb-false (states t) (word_at t r 3) (when (as_edge t r) _ d.1 e)
