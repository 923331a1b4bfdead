-- A spelling of at most 8,192 records is accepted.
use mathlib.Core.Path.{◌≡◌, refl, sym, ap, ◌∙◌}
use mathlib.Core.Bool.{Bool, true, false, ◌&&◌, ◌||◌, not}
use mathlib.Core.List.{List}
use Prim.Native.Nat.{ℕ, zero, suc, ◌+◌, ◌-◌, ◌%◌, ◌≤◌, ◌<◌}
use native.Mathlib.Omega.{arith}
use lib.ListN.{length, get_or}
use lib.Dec.{eqb}
use borrow.Author.Tests.{eqb-true, eqb-false, eq-eqb, ne_eqb, ltb-true, lt-ltb, le-ltb, leb-true, lt-leb}
use Rattle.lr1_base.specs.repr.Sizes.{record_limit}
use Rattle.lr1_base.specs.repr.Lists.{up_from, below, mem, occurrences, joined}
use Rattle.lr1_base.specs.repr.Meaning.{Symbol, nonterminal, terminal, Table, no_production, no_state, production_at, state_at, SymbolFits, ProductionFits, ItemFits, EdgeFits, StateFits, TableFits}
use Rattle.lr1_base.specs.repr.Listed.{symbol_is_fit}
use Rattle.lr1_base.proofs.repr.Lists.{cases, length-up_from, occurrences-append, occurrences-none, occurrences-nil, joined_nil, joined_cons}
use Rattle.lr1_base.proofs.repr.Tests.{All_at}
use Rattle.table.specs.Checked.{Accepted}
use Rattle.table.specs.Words.{word_at, records, nonterminals, terminals, states, productions, state_area, production_area, loose, loose_records, production_records, against}
use Rattle.table.specs.Decoded.{production_chain, symbol_chain}
use Rattle.table.specs.Refusals.{row1, row2, row3, row4, row5, row6, row7, row8, used, is_nonterminal, is_state, is_production, as_symbol, as_item, as_edge, offends, check_of}
use Rattle.table.proofs.Chains.{chain-once}
use Rattle.table.proofs.Exact.{accepted_exact}
use Rattle.table.specs.Quads.{no_quad}
use Rattle.table_rewrite.specs.spelling.Spelled.{kind_of, number_of, symbol_quad, item_quad, edge_quad, states_at, productions_at, records_of, owns, nonterminal_quad, state_quad, production_quad, quads, spell}
use Rattle.table_rewrite.proofs.spelling.Places.{begins, nonterminal_at, state_at_lem, production_at_lem, symbols-within, items_within, edges_within, spell_next, spell_one, spell_two, spell_three, spell-nonterminals, spell-terminals, spell-states, spell-productions, spell-state_area, spell-production_area, spell-loose, spell-records, spell-length}
use Rattle.table_rewrite.proofs.spelling.Chains.{symbol_chain_lem}
use Rattle.table_rewrite.proofs.spelling.Meaning.{no_symbol, no_item, no_edge, chain-owns, fits-owned}
use Rattle.table_rewrite.proofs.spelling.Heres.{head-good, owned_good, Here, symbol_here, item_here, edge_here, next-good}
use Rattle.lr1_base.proofs.laws.Bools.{and-true, neither, and_when}

-- tests put together

or-which {ℓ} : {P : Type ℓ} (a b : Bool) → (a ≡ true → P) → (b ≡ true → P) → a || b ≡ true → P
or-which true b f g e = f refl
or-which false b f g e = g e

-- a number in one of the lists joined, and there once

joined_absent : (f : ℕ → List ℕ) (y k a : ℕ) → ((j : ℕ) → a ≤ j → j < a + k → mem y (f j) ≡ false) → occurrences y (joined f (up_from a k)) ≡ 0
unfolding up_from
joined_absent f y zero a h = rw (joined_nil f) (occurrences-nil y)
joined_absent f y (suc k) a h =
    let o = occurrences-none y (f a) (h a (omega arith) (omega arith)) in
    let r = joined_absent f y k (suc a) (λ j l m. h j (omega arith) (omega arith)) in
    rw (joined_cons f a (up_from (suc a) k), occurrences-append y (f a) (joined f (up_from (suc a) k))) (omega arith)

joined_once : (f : ℕ → List ℕ) (y k a o : ℕ) → a ≤ o → o < a + k → occurrences y (f o) ≡ 1 → ((j : ℕ) → a ≤ j → j < a + k → (j ≡ o → ⊥) → mem y (f j) ≡ false)
    → occurrences y (joined f (up_from a k)) ≡ 1
unfolding up_from
joined_once f y zero a o l m e h = absurd (omega arith)
joined_once f y (suc k) a o l m e h =
    cases (eqb a o)
    (λ q.
    let z = eqb-true a o q in
    let r = joined_absent f y k (suc a) (λ j u v. h j (omega arith) (omega arith) (λ w. omega arith)) in
    let c : occurrences y (f a) ≡ 1 = rw z e in
    rw (joined_cons f a (up_from (suc a) k), occurrences-append y (f a) (joined f (up_from (suc a) k))) (omega arith))
    (λ q.
    let ne = eqb-false a o q in
    let c = occurrences-none y (f a) (h a (omega arith) (omega arith) ne) in
    let r = joined_once f y k (suc a) o (omega arith) (omega arith) e (λ j u v. h j (omega arith) (omega arith)) in
    rw (joined_cons f a (up_from (suc a) k), occurrences-append y (f a) (joined f (up_from (suc a) k))) (omega arith))

-- a symbol in range
pub symbol_in : (T : Table) (s : Symbol) → SymbolFits T s → symbol_is_fit (length T.nonterminals) T.terminals (kind_of s) (number_of s) ≡ true
unfolding SymbolFits symbol_is_fit kind_of number_of
symbol_in T (nonterminal n) h = lt-ltb n (length T.nonterminals) h
symbol_in T (terminal n) h = lt-ltb n T.terminals h

-- what a record is, by its place

module _ (T : Table) (r : ℕ) where
  is_nonterminal_lem : is_nonterminal (spell T) r ≡ true → (n : ℕ) × (n < length T.nonterminals) × (r ≡ 1 + n)
  unfolding is_nonterminal
  is_nonterminal_lem e =
      let p = and-true _ _ e in
      let a = leb-true 1 r p.0 in
      let b = ltb-true r (state_area (spell T)) p.1 in
      let c = spell-state_area T in
      let d = begins T in
      (r - 1, omega arith, omega arith)

  is_state_lem : is_state (spell T) r ≡ true → (s : ℕ) × (s < length T.states) × (r ≡ states_at T + s)
  unfolding is_state
  is_state_lem e =
      let p = and-true _ _ e in
      let a = leb-true (state_area (spell T)) r p.0 in
      let b = ltb-true r (production_area (spell T)) p.1 in
      let c = spell-state_area T in
      let g = spell-production_area T in
      let d = begins T in
      (r - states_at T, omega arith, omega arith)

  is_production_lem : is_production (spell T) r ≡ true → (p : ℕ) × (p < length T.productions) × (r ≡ productions_at T + p)
  unfolding is_production
  is_production_lem e =
      let p = and-true _ _ e in
      let a = leb-true (production_area (spell T)) r p.0 in
      let b = ltb-true r (loose (spell T)) p.1 in
      let c = spell-loose T in
      let g = spell-production_area T in
      let d = begins T in
      (r - productions_at T, omega arith, omega arith)

-- row by row

module _ (T : Table) (F : TableFits T) where
  nonterminal_index : (n : ℕ) → n < length T.nonterminals → against (production_records (spell T)) (1 + n) (word_at (spell T) (1 + n) 0) ≡ false
  unfolding nonterminal_quad
  nonterminal_index n h =
      let b = begins T in
      rw (spell_next T (1 + n) (nonterminal_quad T n) (nonterminal_at T n h)) (owned_good T n 0 (1 + n) (omega arith) (omega arith))

  state_index : (s : ℕ) → s < length T.states
      → (against (loose_records (spell T)) (states_at T + s) (word_at (spell T) (states_at T + s) 0) || against (loose_records (spell T)) (states_at T + s) (word_at (spell T) (states_at T + s) 1)) ≡ false
  unfolding state_quad
  state_index s h =
      let b = begins T in
      let q = state_at_lem T s h in
      let i = items_within T s h in
      let e = edges_within T s h in
      rw (spell_next T (states_at T + s) (state_quad T s) q, spell_one T (states_at T + s) (state_quad T s) q)
      (neither _ _
      (head-good T (states_at T + s) _ (state_at T s).items (omega (arith, i.after)) i.after i.before)
      (head-good T (states_at T + s) _ (state_at T s).edges (omega (arith, e.after)) e.after e.before))

  production_index : (p : ℕ) → p < length T.productions
      → (against (production_records (spell T)) (productions_at T + p) (word_at (spell T) (productions_at T + p) 0) || against (loose_records (spell T)) (productions_at T + p) (word_at (spell T) (productions_at T + p) 1)) ≡ false
  unfolding production_quad
  production_index p h =
      let b = begins T in
      let q = production_at_lem T p h in
      let i = symbols-within T p h in
      rw (spell_next T (productions_at T + p) (production_quad T p) q, spell_one T (productions_at T + p) (production_quad T p) q)
      (neither _ _
      (owned_good T (production_at T p).nonterminal (suc p) (productions_at T + p) h (omega arith))
      (head-good T (productions_at T + p) _ (production_at T p).symbols (omega (arith, i.after)) i.after i.before))

  none3 : (r : ℕ) → row3 (spell T) r ≡ false
  unfolding row3
  none3 r =
      neither _ _ (and_when (is_nonterminal (spell T) r) _ (λ e. let w = is_nonterminal_lem T r e in rw w.2 (nonterminal_index w.0 w.1)))
      (neither _ _ (and_when (is_state (spell T) r) _ (λ e. let w = is_state_lem T r e in rw w.2 (state_index w.0 w.1)))
      (neither _ _ (and_when (is_production (spell T) r) _ (λ e. let w = is_production_lem T r e in rw w.2 (production_index w.0 w.1)))
      (and_when (as_symbol (spell T) r || (as_item (spell T) r || as_edge (spell T) r)) _
      (or-which (as_symbol (spell T) r) (as_item (spell T) r || as_edge (spell T) r)
      (λ e. let w = symbol_here T r e in next-good T r symbol_quad no_symbol (production_at T w.0).symbols (λ n x. refl) w.2)
      (or-which (as_item (spell T) r) (as_edge (spell T) r)
      (λ e. let w = item_here T r e in next-good T r item_quad no_item (state_at T w.0).items (λ n x. refl) w.2)
      (λ e. let w = edge_here T r e in next-good T r edge_quad no_edge (state_at T w.0).edges (λ n x. refl) w.2))))))

  -- a production stands in its nonterminal's chain, once, and in no other
  in_one : (p : ℕ) → p < length T.productions → occurrences (production_area (spell T) + p) (joined (production_chain (spell T)) (below (nonterminals (spell T)))) ≡ 1
  unfolding below owns production_chain
  in_one p h =
      let o = (production_at T p).nonterminal in
      let l = fits-owned T F p h in
      rw (spell-nonterminals T)
      (joined_once (production_chain (spell T)) (production_area (spell T) + p) (length T.nonterminals) 0 o (omega arith) (omega arith)
      (chain-once (spell T) (production_records (spell T)) (1 + o) (word_at (spell T) (1 + o) 0) (production_area (spell T) + p) (chain-owns T o p l h ∙ eq-eqb o o refl))
      (λ j a b ne. chain-owns T j p (omega arith) h ∙ ne_eqb o j (λ z. ne (sym z))))

  none4 : (r : ℕ) → row4 (spell T) r ≡ false
  unfolding row4
  none4 r =
      and_when (is_production (spell T) r) _
      (λ e.
      let w = is_production_lem T r e in
      let q : r ≡ production_area (spell T) + w.0 = w.2 ∙ ap (λ (k : ℕ). k + w.0) (sym (spell-production_area T)) in
      rw (q, in_one w.0 w.1))

  short : (p : ℕ) → p < length T.productions → length (symbol_chain (spell T) p) ≡ length (production_at T p).symbols
  short p h = ap length (symbol_chain_lem T p h) ∙ length-up_from _ (length (production_at T p).symbols)

  none5 : (r : ℕ) → row5 (spell T) r ≡ false
  unfolding row5
  none5 r =
      and_when (is_production (spell T) r) _
      (λ e.
      let w = is_production_lem T r e in
      let a = spell-production_area T in
      let q : r - production_area (spell T) ≡ w.0 = omega (arith, w.2) in
      rw (q, short w.0 w.1)
      (le-ltb 16 (length (production_at T w.0).symbols) (All_at (ProductionFits T) T.productions w.0 no_production F.productions w.1).short))

  symbol_range : (r : ℕ) → as_symbol (spell T) r ≡ true → symbol_is_fit (nonterminals (spell T)) (terminals (spell T)) (word_at (spell T) r 1) (word_at (spell T) r 2) ≡ true
  symbol_range r e =
      let w = symbol_here T r e in
      let H = w.2 in
      let s = All_at (SymbolFits T) (production_at T w.0).symbols H.index no_symbol (All_at (ProductionFits T) T.productions w.0 no_production F.productions w.1).symbols H.inside in
      rw (spell-nonterminals T, spell-terminals T, spell_one T r _ H.quad, spell_two T r _ H.quad) (symbol_in T _ s)

  edge_fits : (s r : ℕ) → s < length T.states → (H : Here T edge_quad no_edge (state_at T s).edges r) → EdgeFits T (get_or (state_at T s).edges H.index no_edge)
  edge_fits s r h H = All_at (EdgeFits T) (state_at T s).edges H.index no_edge (All_at (StateFits T) T.states s no_state F.states h).edges H.inside

  item_fits : (s r : ℕ) → s < length T.states → (H : Here T item_quad no_item (state_at T s).items r) → ItemFits T (get_or (state_at T s).items H.index no_item)
  item_fits s r h H = All_at (ItemFits T) (state_at T s).items H.index no_item (All_at (StateFits T) T.states s no_state F.states h).items H.inside

  edge_range : (r : ℕ) → as_edge (spell T) r ≡ true → symbol_is_fit (nonterminals (spell T)) (terminals (spell T)) (word_at (spell T) r 1) (word_at (spell T) r 2) ≡ true
  edge_range r e =
      let w = edge_here T r e in
      let H = w.2 in
      rw (spell-nonterminals T, spell-terminals T, spell_one T r _ H.quad, spell_two T r _ H.quad) (symbol_in T _ (edge_fits w.0 r w.1 H).symbol)

  none6 : (r : ℕ) → row6 (spell T) r ≡ false
  unfolding row6
  none6 r =
      and_when (as_symbol (spell T) r || as_edge (spell T) r) _
      (or-which (as_symbol (spell T) r) (as_edge (spell T) r) (λ e. rw (symbol_range r e)) (λ e. rw (edge_range r e)))

  none7 : (r : ℕ) → row7 (spell T) r ≡ false
  unfolding row7
  none7 r =
      neither _ _
      (and_when (as_item (spell T) r) _
      (λ e.
      let w = item_here T r e in
      let H = w.2 in
      let I = item_fits w.0 r w.1 H in
      rw (spell-productions T, spell_one T r _ H.quad, spell_two T r _ H.quad, short (get_or (state_at T w.0).items H.index no_item).production I.production)
      (neither _ _ (lt-leb _ _ I.production) (le-ltb _ _ I.index))))
      (and_when (as_edge (spell T) r) _
      (λ e.
      let w = edge_here T r e in
      let H = w.2 in
      rw (spell-states T, spell_three T r _ H.quad) (lt-leb _ _ (edge_fits w.0 r w.1 H).target)))

  unused : (r k : ℕ) → word_at (spell T) r k ≡ 0 → used (spell T) r k ≡ false
  unfolding used
  unused r k e = rw e

  none8 : (r : ℕ) → row8 (spell T) r ≡ false
  unfolding row8 nonterminal_quad state_quad
  none8 r =
      neither _ _
      (and_when (is_nonterminal (spell T) r) _
      (λ e.
      let w = is_nonterminal_lem T r e in
      let q : get_or (quads T) r no_quad ≡ nonterminal_quad T w.0 = ap (λ (k : ℕ). get_or (quads T) k no_quad) w.2 ∙ nonterminal_at T w.0 w.1 in
      neither _ _ (unused r 1 (spell_one T r _ q)) (neither _ _ (unused r 2 (spell_two T r _ q)) (unused r 3 (spell_three T r _ q)))))
      (neither _ _
      (and_when (is_state (spell T) r) _
      (λ e.
      let w = is_state_lem T r e in
      let q : get_or (quads T) r no_quad ≡ state_quad T w.0 = ap (λ (k : ℕ). get_or (quads T) k no_quad) w.2 ∙ state_at_lem T w.0 w.1 in
      neither _ _ (unused r 2 (spell_two T r _ q)) (unused r 3 (spell_three T r _ q))))
      (and_when (as_symbol (spell T) r || as_item (spell T) r) _
      (or-which (as_symbol (spell T) r) (as_item (spell T) r)
      (λ e. unused r 3 (spell_three T r _ (symbol_here T r e).2.quad))
      (λ e. unused r 3 (spell_three T r _ (item_here T r e).2.quad)))))

  no_row : (n r : ℕ) → 3 ≤ n → n ≤ 8 → offends n (spell T) r ≡ false
  unfolding offends
  no_row n r h l =
      cases (eqb n 3) (λ q. rw (eqb-true n 3 q) (none3 r)) (λ q3.
      cases (eqb n 4) (λ q. rw (eqb-true n 4 q) (none4 r)) (λ q4.
      cases (eqb n 5) (λ q. rw (eqb-true n 5 q) (none5 r)) (λ q5.
      cases (eqb n 6) (λ q. rw (eqb-true n 6 q) (none6 r)) (λ q6.
      cases (eqb n 7) (λ q. rw (eqb-true n 7 q) (none7 r)) (λ q7.
      let e3 = eqb-false n 3 q3 in
      let e4 = eqb-false n 4 q4 in
      let e5 = eqb-false n 5 q5 in
      let e6 = eqb-false n 6 q6 in
      let e7 = eqb-false n 7 q7 in
      let e : n ≡ 8 = omega arith in
      rw e (none8 r))))))

  module _ (few : records_of T ≤ record_limit) where
    words_good : row1 (spell T) ≡ false
    unfolding row1
    words_good =
        let l = spell-length T in
        let b = begins T in
        let m : length (spell T) % 4 ≡ 0 = omega arith in
        neither _ _ (ne_eqb (length (spell T)) 0 (λ z. omega arith)) (neither (not (eqb (length (spell T) % 4) 0)) _ (rw m) (le-ltb 32768 (length (spell T)) (omega arith)))

    counts_good : row2 (spell T) ≡ false
    unfolding row2
    counts_good =
        let b = begins T in
        let n = spell-nonterminals T in
        let u = spell-terminals T in
        let s = spell-states T in
        let p = spell-productions T in
        let l = spell-loose T in
        let z = spell-records T in
        neither _ _ (ne_eqb (nonterminals (spell T)) 0 (λ q. omega arith))
        (neither _ _ (le-ltb 32 (nonterminals (spell T)) (omega arith))
        (neither _ _ (le-ltb 63 (terminals (spell T)) (omega arith))
        (neither _ _ (ne_eqb (states (spell T)) 0 (λ q. omega arith))
        (neither _ _ (le-ltb 128 (states (spell T)) (omega arith))
        (neither _ _ (le-ltb 128 (productions (spell T)) (omega arith)) (le-ltb (records (spell T)) (loose (spell T)) (omega arith)))))))

    pub fits_accepted : check_of (spell T) ≡ Accepted
    fits_accepted = (accepted_exact (spell T)).1 (record { words = words_good; counts = counts_good; records = λ n r h l i. no_row n r h l })

-- a spelling of at most 8,192 records is accepted
pub spell_accepted : (T : Table) → TableFits T → records_of T ≤ record_limit → check_of (spell T) ≡ Accepted
spell_accepted T F few = fits_accepted T F few
