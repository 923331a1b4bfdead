-- Where the reached records are moved, the table is accepted again.
use mathlib.Core.Path.{◌≡◌, refl, sym, ap, ◌∙◌}
use mathlib.Core.Bool.{true, false, ◌&&◌, ◌||◌, not}
use mathlib.Core.List.{List}
use Prim.Native.Nat.{ℕ, ◌+◌, ◌-◌, ◌%◌, ◌≤◌, ◌<◌}
use native.Mathlib.Omega.{arith}
use lib.ListN.{length}
use lib.Dec.{eqb, ltb, leb}
use borrow.Author.Tests.{eqb-true, eqb-false, ne_eqb, ltb-true, le-ltb, leb-true, lt-leb, not-false}
use Rattle.lr1_base.specs.repr.Lists.{below, mem, joined}
use Rattle.lr1_base.specs.repr.Listed.{symbol_is_fit}
use Rattle.lr1_base.proofs.repr.Lists.{cases, length_mapped, mem_below, joined_members}
use Rattle.lr1_base.proofs.repr.Tests.{some?-below, some?-below_witness}
use Rattle.table.specs.Checked.{Accepted}
use Rattle.table.specs.Words.{word_at, records, nonterminals, terminals, states, productions, state_area, production_area, loose, loose_records, production_records, against}
use Rattle.table.specs.Decoded.{production_chain, symbol_chain, item_chain, edge_chain}
use Rattle.table.specs.Refusals.{row1, row2, row3, row4, row5, row6, row7, row8, used, is_nonterminal, is_state, is_production, as_symbol, as_item, as_edge, offends, check_of}
use Rattle.table.proofs.Chains.{or-false, or_left, or_right, named, good_of}
use Rattle.table.proofs.ListLaws.{mem-map-out}
use Rattle.table.proofs.Accepted.{Accepts, areas_of, nonterminal-place, state_place, production_place_lem, nonterminal-head, production-next, production-once, production_short, symbol_range, edge_range, item_range, target_range}
use Rattle.table.proofs.Exact.{accepted_exact}
use Rattle.table_rewrite.specs.compaction.Compaction.{reached, moved, count_of}
use Rattle.table_rewrite.proofs.compaction.Renumbered.{index_renumbered}
use Rattle.table_rewrite.proofs.compaction.Moves.{or-which, MovedTo, as_symbol_lem, as_item_lem, as_edge_lem, reached-place, reached-next, reached-closed, moved_rises}
use Rattle.table_rewrite.proofs.compaction.Chains.{same_nonterminals, same_terminals, same_states, same_productions, same_state_area, same_production-area, same_loose, same_production-records, renumbers, symbol_chain_lem, item_chain_lem, edge_chain_lem, symbol_index, item_index, edge_index, nonterminal-word, production-word, production_chain_lem}
use Rattle.lr1_base.proofs.laws.Bools.{and-true, when, neither, and_when}

-- tests put together

unused : (t : List ℕ) (r k : ℕ) → word_at t r k ≡ 0 → used t r k ≡ false
unfolding used
unused t r k e = rw e

spare : (t : List ℕ) (r k : ℕ) → used t r k ≡ false → word_at t r k ≡ 0
unfolding used
spare t r k e = eqb-true (word_at t r k) 0 (not-false (eqb (word_at t r k) 0) e)

-- the spare words of an accepted table
module _ (t : List ℕ) (A : Accepts t) where
  nonterminal_spare : (n : ℕ) → n < nonterminals t → (word_at t (1 + n) 1 ≡ 0) × (word_at t (1 + n) 2 ≡ 0) × (word_at t (1 + n) 3 ≡ 0)
  unfolding row8
  nonterminal_spare n h =
      let l = areas_of t in
      let a = A.areas in
      let e = or-false (is_nonterminal t (1 + n) && (used t (1 + n) 1 || (used t (1 + n) 2 || used t (1 + n) 3))) _ (A.none8 (1 + n) (omega arith)) in
      let q = or-false (used t (1 + n) 1) _ (when _ _ e.0 (nonterminal-place t n h)) in
      let w = or-false (used t (1 + n) 2) (used t (1 + n) 3) q.1 in
      (spare t (1 + n) 1 q.0, spare t (1 + n) 2 w.0, spare t (1 + n) 3 w.1)

  state_spare : (r : ℕ) → r < loose t → is_state t r ≡ true → (word_at t r 2 ≡ 0) × (word_at t r 3 ≡ 0)
  unfolding row8
  state_spare r h k =
      let a = A.areas in
      let e = or-false (is_nonterminal t r && (used t r 1 || (used t r 2 || used t r 3))) _ (A.none8 r (omega arith)) in
      let f = or-false (is_state t r && (used t r 2 || used t r 3)) _ e.1 in
      let w = or-false (used t r 2) (used t r 3) (when _ _ f.0 k) in
      (spare t r 2 w.0, spare t r 3 w.1)

  loose_spare : (r : ℕ) → r < records t → (as_symbol t r || as_item t r) ≡ true → word_at t r 3 ≡ 0
  unfolding row8
  loose_spare r h k =
      let e = or-false (is_nonterminal t r && (used t r 1 || (used t r 2 || used t r 3))) _ (A.none8 r h) in
      let f = or-false (is_state t r && (used t r 2 || used t r 3)) ((as_symbol t r || as_item t r) && used t r 3) e.1 in
      spare t r 3 (when _ _ f.1 k)

module _ (t u : List ℕ) (A : Accepts t) (M : MovedTo t u) where
  -- what a record of u is, by its place

  is_nonterminal_lem : (r : ℕ) → is_nonterminal u r ≡ true → (n : ℕ) × (n < nonterminals t) × (r ≡ 1 + n)
  unfolding is_nonterminal
  is_nonterminal_lem r e =
      let p = and-true _ _ e in
      let a = leb-true 1 r p.0 in
      let b = ltb-true r (state_area u) p.1 in
      let c = same_state_area t u A M in
      let d = areas_of t in
      (r - 1, omega arith, omega arith)

  is_state_lem : (r : ℕ) → is_state u r ≡ true → (s : ℕ) × (s < states t) × (r ≡ state_area t + s)
  unfolding is_state
  is_state_lem r e =
      let p = and-true _ _ e in
      let a = leb-true (state_area u) r p.0 in
      let b = ltb-true r (production_area u) p.1 in
      let c = same_state_area t u A M in
      let g = same_production-area t u A M in
      let d = areas_of t in
      (r - state_area t, omega arith, omega arith)

  is_production_lem : (r : ℕ) → is_production u r ≡ true → (p : ℕ) × (p < productions t) × (r ≡ production_area t + p)
  unfolding is_production
  is_production_lem r e =
      let p = and-true _ _ e in
      let a = leb-true (production_area u) r p.0 in
      let b = ltb-true r (loose u) p.1 in
      let c = same_loose t u A M in
      let g = same_production-area t u A M in
      let d = areas_of t in
      (r - production_area t, omega arith, omega arith)

  -- what is reached in u was reached in t, as the same
  pub was_symbol : (r : ℕ) → as_symbol u r ≡ true → (x : ℕ) × (as_symbol t x ≡ true) × (moved t x ≡ r)
  unfolding as_symbol
  was_symbol r e =
      let w = some?-below_witness (λ p. mem r (symbol_chain u p)) (productions u) e in
      let c = same_productions t u A M in
      let h : w.0 < productions t = omega (arith, w.1, c) in
      let m = mem-map-out (moved t) r (symbol_chain t w.0) (sym (ap (mem r) (symbol_chain_lem t u A M w.0 h)) ∙ w.2) in
      (m.0, some?-below (λ p. mem m.0 (symbol_chain t p)) (productions t) w.0 h m.1, m.2)

  pub was_item : (r : ℕ) → as_item u r ≡ true → (x : ℕ) × (as_item t x ≡ true) × (moved t x ≡ r)
  unfolding as_item
  was_item r e =
      let w = some?-below_witness (λ p. mem r (item_chain u p)) (states u) e in
      let c = same_states t u A M in
      let h : w.0 < states t = omega (arith, w.1, c) in
      let m = mem-map-out (moved t) r (item_chain t w.0) (sym (ap (mem r) (item_chain_lem t u A M w.0 h)) ∙ w.2) in
      (m.0, some?-below (λ p. mem m.0 (item_chain t p)) (states t) w.0 h m.1, m.2)

  pub was_edge : (r : ℕ) → as_edge u r ≡ true → (x : ℕ) × (as_edge t x ≡ true) × (moved t x ≡ r)
  unfolding as_edge
  was_edge r e =
      let w = some?-below_witness (λ p. mem r (edge_chain u p)) (states u) e in
      let c = same_states t u A M in
      let h : w.0 < states t = omega (arith, w.1, c) in
      let m = mem-map-out (moved t) r (edge_chain t w.0) (sym (ap (mem r) (edge_chain_lem t u A M w.0 h)) ∙ w.2) in
      (m.0, some?-below (λ p. mem m.0 (edge_chain t p)) (states t) w.0 h m.1, m.2)

  -- row by row

  nonterminal_index : (n : ℕ) → n < nonterminals t → against (production_records u) (1 + n) (word_at u (1 + n) 0) ≡ false
  nonterminal_index n h =
      let l = areas_of t in
      rw (same_production-records t u A M, nonterminal-word t u A M (1 + n) (omega arith)) (nonterminal-head t A n h)

  production_index : (p : ℕ) → p < productions t → against (production_records u) (production_area t + p) (word_at u (production_area t + p) 0) ≡ false
  production_index p h =
      let l = areas_of t in
      rw (same_production-records t u A M, production-word t u A M (production_area t + p) (omega arith) (omega arith))
      (production-next t A (production_area t + p) (production_place_lem t p h))

  loose_index : (x : ℕ) → reached t x ≡ true → against (loose_records u) (moved t x) (word_at u (moved t x) 0) ≡ false
  loose_index x e =
      rw (M.next x e)
      (index_renumbered (renumbers t u A M) x (moved t x) (word_at t x 0)
      (λ ne.
      let f = reached-closed t A x e ne in
      (f, moved_rises t x (word_at t x 0) e f (named (loose_records t) x (word_at t x 0) (good_of (loose_records t) x (word_at t x 0) (reached-next t A x e) ne)).later)))

  none3 : (r : ℕ) → row3 u r ≡ false
  unfolding row3
  none3 r =
      neither _ _ (and_when (is_nonterminal u r) _ (λ e. let w = is_nonterminal_lem r e in rw w.2 (nonterminal_index w.0 w.1)))
      (neither _ _ (and_when (is_state u r) _ (λ e. let w = is_state_lem r e in rw w.2 (neither _ _ (item_index t u A M w.0 w.1) (edge_index t u A M w.0 w.1))))
      (neither _ _ (and_when (is_production u r) _ (λ e. let w = is_production_lem r e in rw w.2 (neither _ _ (production_index w.0 w.1) (symbol_index t u A M w.0 w.1))))
      (and_when (as_symbol u r || (as_item u r || as_edge u r)) _
      (or-which (as_symbol u r) (as_item u r || as_edge u r)
      (λ e. let w = was_symbol r e in rw (← w.2) (loose_index w.0 (as_symbol_lem t w.0 w.1)))
      (or-which (as_item u r) (as_edge u r)
      (λ e. let w = was_item r e in rw (← w.2) (loose_index w.0 (as_item_lem t w.0 w.1)))
      (λ e. let w = was_edge r e in rw (← w.2) (loose_index w.0 (as_edge_lem t w.0 w.1))))))))

  chains_same : joined (production_chain u) (below (nonterminals u)) ≡ joined (production_chain t) (below (nonterminals t))
  chains_same =
      ap (λ (n : ℕ). joined (production_chain u) (below n)) (same_nonterminals t u A M)
      ∙ joined_members (production_chain u) (production_chain t) (below (nonterminals t))
      (λ n m. production_chain_lem t u A M n (ltb-true n (nonterminals t) (sym (mem_below n (nonterminals t)) ∙ m)))

  none4 : (r : ℕ) → row4 u r ≡ false
  unfolding row4
  none4 r =
      and_when (is_production u r) _
      (λ e. let w = is_production_lem r e in rw (w.2, chains_same, production-once t A w.0 w.1))

  short : (p : ℕ) → p < productions t → length (symbol_chain u p) ≡ length (symbol_chain t p)
  short p h = ap length (symbol_chain_lem t u A M p h) ∙ length_mapped (moved t) (symbol_chain t p)

  none5 : (r : ℕ) → row5 u r ≡ false
  unfolding row5
  none5 r =
      and_when (is_production u r) _
      (λ e.
      let w = is_production_lem r e in
      let a = same_production-area t u A M in
      let q : r - production_area u ≡ w.0 = omega (arith, w.2) in
      rw (q, short w.0 w.1) (le-ltb 16 (length (symbol_chain t w.0)) (production_short t A w.0 w.1)))

  fits : (x : ℕ) → reached t x ≡ true → symbol_is_fit (nonterminals t) (terminals t) (word_at t x 1) (word_at t x 2) ≡ true
      → not (symbol_is_fit (nonterminals u) (terminals u) (word_at u (moved t x) 1) (word_at u (moved t x) 2)) ≡ false
  fits x e f = rw (same_nonterminals t u A M, same_terminals t u A M, M.one x e, M.two x e, f)

  none6 : (r : ℕ) → row6 u r ≡ false
  unfolding row6
  none6 r =
      and_when (as_symbol u r || as_edge u r) _
      (or-which (as_symbol u r) (as_edge u r)
      (λ e. let w = was_symbol r e in let k = as_symbol_lem t w.0 w.1 in rw (← w.2) (fits w.0 k (symbol_range t A w.0 (reached-place t w.0 k).1 w.1)))
      (λ e. let w = was_edge r e in let k = as_edge_lem t w.0 w.1 in rw (← w.2) (fits w.0 k (edge_range t A w.0 (reached-place t w.0 k).1 w.1))))

  none7 : (r : ℕ) → row7 u r ≡ false
  unfolding row7
  none7 r =
      neither _ _
      (and_when (as_item u r) _
      (λ e.
      let w = was_item r e in
      let k = as_item_lem t w.0 w.1 in
      let i = item_range t A w.0 (reached-place t w.0 k).1 w.1 in
      rw (← w.2) (item_fits w.0 k i.0 i.1)))
      (and_when (as_edge u r) _
      (λ e.
      let w = was_edge r e in
      let k = as_edge_lem t w.0 w.1 in
      rw (← w.2) (edge_fits w.0 k (target_range t A w.0 (reached-place t w.0 k).1 w.1))))
    where
      item_fits : (x : ℕ) → reached t x ≡ true → word_at t x 1 < productions t → word_at t x 2 ≤ length (symbol_chain t (word_at t x 1))
          → (leb (productions u) (word_at u (moved t x) 1) || ltb (length (symbol_chain u (word_at u (moved t x) 1))) (word_at u (moved t x) 2)) ≡ false
      item_fits x k a b =
          rw (same_productions t u A M, M.one x k, M.two x k, short (word_at t x 1) a) (neither _ _ (lt-leb _ _ a) (le-ltb _ _ b))

      edge_fits : (x : ℕ) → reached t x ≡ true → word_at t x 3 < states t → leb (states u) (word_at u (moved t x) 3) ≡ false
      edge_fits x k a = rw (same_states t u A M, M.three x k) (lt-leb _ _ a)

  none8 : (r : ℕ) → row8 u r ≡ false
  unfolding row8
  none8 r =
      neither _ _
      (and_when (is_nonterminal u r) _
      (λ e.
      let w = is_nonterminal_lem r e in
      let l = areas_of t in
      let z = nonterminal_spare t A w.0 w.1 in
      rw w.2
      (neither _ _ (unused u (1 + w.0) 1 (M.stays_one (1 + w.0) (omega (arith, w.1)) ∙ z.0))
      (neither _ _ (unused u (1 + w.0) 2 (M.stays_two (1 + w.0) (omega (arith, w.1)) ∙ z.1)) (unused u (1 + w.0) 3 (M.stays_three (1 + w.0) (omega (arith, w.1)) ∙ z.2))))))
      (neither _ _
      (and_when (is_state u r) _
      (λ e.
      let w = is_state_lem r e in
      let l = areas_of t in
      let b : state_area t + w.0 < loose t = omega (arith, w.1) in
      let z = state_spare t A (state_area t + w.0) b (state_place t w.0 w.1) in
      rw w.2
      (neither _ _ (unused u (state_area t + w.0) 2 (M.stays_two (state_area t + w.0) b ∙ z.0)) (unused u (state_area t + w.0) 3 (M.stays_three (state_area t + w.0) b ∙ z.1)))))
      (and_when (as_symbol u r || as_item u r) _
      (or-which (as_symbol u r) (as_item u r)
      (λ e.
      let w = was_symbol r e in
      let k = as_symbol_lem t w.0 w.1 in
      rw (← w.2) (unused u (moved t w.0) 3 (M.three w.0 k ∙ loose_spare t A w.0 (reached-place t w.0 k).1 (or_left _ _ w.1))))
      (λ e.
      let w = was_item r e in
      let k = as_item_lem t w.0 w.1 in
      rw (← w.2) (unused u (moved t w.0) 3 (M.three w.0 k ∙ loose_spare t A w.0 (reached-place t w.0 k).1 (or_right (as_symbol t w.0) _ w.1)))))))

  no_row : (n r : ℕ) → 3 ≤ n → n ≤ 8 → offends n u r ≡ false
  unfolding offends
  no_row n r h l =
      cases (eqb n 3) (λ q. rw (eqb-true n 3 q) (none3 r)) (λ q3.
      cases (eqb n 4) (λ q. rw (eqb-true n 4 q) (none4 r)) (λ q4.
      cases (eqb n 5) (λ q. rw (eqb-true n 5 q) (none5 r)) (λ q5.
      cases (eqb n 6) (λ q. rw (eqb-true n 6 q) (none6 r)) (λ q6.
      cases (eqb n 7) (λ q. rw (eqb-true n 7 q) (none7 r)) (λ q7.
      let e3 = eqb-false n 3 q3 in
      let e4 = eqb-false n 4 q4 in
      let e5 = eqb-false n 5 q5 in
      let e6 = eqb-false n 6 q6 in
      let e7 = eqb-false n 7 q7 in
      let e : n ≡ 8 = omega arith in
      rw e (none8 r))))))

  words_good : row1 u ≡ false
  unfolding row1 count_of
  words_good =
      let l = M.long in
      let a = M.enough in
      let f = M.few in
      let g = A.few_records in
      let d = areas_of t in
      let m : length u % 4 ≡ 0 = omega arith in
      neither _ _ (ne_eqb (length u) 0 (λ z. omega arith)) (neither (not (eqb (length u % 4) 0)) _ (rw m) (le-ltb 32768 (length u) (omega arith)))

  counts_good : row2 u ≡ false
  unfolding row2 count_of
  counts_good =
      let n = same_nonterminals t u A M in
      let v = same_terminals t u A M in
      let s = same_states t u A M in
      let p = same_productions t u A M in
      let l = same_loose t u A M in
      let e = M.enough in
      let a1 = A.some-nonterminal in
      let a2 = A.few_nonterminals in
      let a3 = A.few_terminals in
      let a4 = A.some_state in
      let a5 = A.few_states in
      let a6 = A.few_productions_lem in
      neither _ _ (ne_eqb (nonterminals u) 0 (λ q. omega arith))
      (neither _ _ (le-ltb 32 (nonterminals u) (omega arith))
      (neither _ _ (le-ltb 63 (terminals u) (omega arith))
      (neither _ _ (ne_eqb (states u) 0 (λ q. omega arith))
      (neither _ _ (le-ltb 128 (states u) (omega arith))
      (neither _ _ (le-ltb 128 (productions u) (omega arith)) (le-ltb (records u) (loose u) (omega arith)))))))

  pub moved_accepted : check_of u ≡ Accepted
  moved_accepted = (accepted_exact u).1 (record { words = words_good; counts = counts_good; records = λ n r h l i. no_row n r h l })
