-- The lowest row of one record, by what the record is; and that the length as far as seventeen gives the same first row.
use mathlib.Core.Path.{◌≡◌, refl, sym, ap, ◌∙◌}
use mathlib.Core.Bool.{Bool, true, false, ◌&&◌, ◌||◌, not}
use mathlib.Core.List.{List, [], ◌∷◌}
use mathlib.Core.Option.{Option, none, some}
use Prim.Native.Nat.{ℕ, ◌+◌, ◌-◌, min, ◌≤◌, ◌<◌}
use native.Mathlib.Omega.{arith}
use lib.ListN.{length}
use lib.Dec.{eqb, ltb, leb}
use borrow.Author.Tests.{ne_eqb, lt-ltb, le-ltb, le-leb, lt-leb, ltb-false, leb-false}
use Rattle.lr1_base.specs.bits.Bits.{bit_at}
use Rattle.lr1_base.specs.repr.Sizes.{index_limit}
use Rattle.lr1_base.specs.repr.Lists.{below, first?, occurrences, joined}
use Rattle.lr1_base.proofs.repr.Lists.{cases}
use Rattle.lr1_base.proofs.repr.Tests.{first?-yes, first?_no, first?-below-none}
use Rattle.table.specs.Checked.{Accepted, Refused}
use Rattle.table.specs.Words.{word_at, records, productions, state_area, production_area, loose, loose_records, production_records, against}
use Rattle.table.specs.Decoded.{or_zero, production_chain, symbol_chain}
use Rattle.table.specs.Refusals.{is_nonterminal, is_state, is_production, as_symbol, as_item, as_edge, row3, row4, row5, row6, row7, row8, used, offends, first_row}
use Rattle.table.proofs.Exact.{row_some, row_none}
use Rattle.table.proofs.Reached.{reached-loose, symbol_is, item_is, edge_is_lem, reached-symbol, reached-item, reached_edge}
use Rattle.table_check.specs.Passed.{Reaching}
use Rattle.table_check.specs.Faults.{choose, index_bad, symbol_bad, item_bad, range_bad, spare_bad, tried, fault_at, fault_of_nonterminal, fault_of_state, fault_of_production, fault_of_loose, first_by, Best}
use Rattle.table_check.proofs.Passed.{marked}
use Rattle.table_check.proofs.FirstRow.{lowest, Rising, by_some, by_none, by_accepted, by_refused, lowest_nil}

-- ---- six tests in order
chosen : Bool → Bool → Bool → Bool → Bool → Bool → ℕ
chosen b3 b4 b5 b6 b7 b8 = choose b3 3 (choose b4 4 (choose b5 5 (choose b6 6 (choose b7 7 (choose b8 8 0)))))

lowest_cons : (off : ℕ → Bool) (n : ℕ) (ns : List ℕ) → lowest off (n ∷ ns) ≡ choose (off n) n (lowest off ns)
unfolding lowest or_zero choose
lowest_cons off n ns = cases (off n) (λ e. rw e (ap or_zero (first?-yes off n ns e))) (λ e. rw e (ap or_zero (first?_no off n ns e)))

six : (t : List ℕ) (r : ℕ) → fault_at t r ≡ chosen (row3 t r) (row4 t r) (row5 t r) (row6 t r) (range_bad t r (as_item t r) (as_edge t r)) (row8 t r)
unfolding fault_at tried offends lowest chosen
six t r =
    let off : ℕ → Bool = λ n. tried t n r in
    lowest_cons off 3 (4 ∷ 5 ∷ 6 ∷ 7 ∷ 8 ∷ [])
    ∙ ap (choose (row3 t r) 3) (lowest_cons off 4 (5 ∷ 6 ∷ 7 ∷ 8 ∷ [])
    ∙ ap (choose (row4 t r) 4) (lowest_cons off 5 (6 ∷ 7 ∷ 8 ∷ [])
    ∙ ap (choose (row5 t r) 5) (lowest_cons off 6 (7 ∷ 8 ∷ [])
    ∙ ap (choose (row6 t r) 6) (lowest_cons off 7 (8 ∷ [])
    ∙ ap (choose (range_bad t r (as_item t r) (as_edge t r)) 7) (lowest_cons off 8 []
    ∙ ap (choose (row8 t r) 8) (lowest_nil off))))))

-- ---- what a record is
states-before : (t : List ℕ) → state_area t ≤ production_area t
unfolding production_area
states-before t = omega arith

productions-before : (t : List ℕ) → production_area t ≤ loose t
unfolding loose
productions-before t = omega arith

-- an area's record is in no chain of loose records
module _ (t : List ℕ) (r : ℕ) (h : r < loose t) where
  no_symbol_lem : as_symbol t r ≡ false
  no_symbol_lem = cases (as_symbol t r) (λ e. let w = (reached-loose ((reached-symbol t r).0 e)).0 in absurd (omega arith)) (λ e. e)

  no_item : as_item t r ≡ false
  no_item = cases (as_item t r) (λ e. let w = (reached-loose ((reached-item t r).0 e)).0 in absurd (omega arith)) (λ e. e)

  no_edge : as_edge t r ≡ false
  no_edge = cases (as_edge t r) (λ e. let w = (reached-loose ((reached_edge t r).0 e)).0 in absurd (omega arith)) (λ e. e)

nonterminal-yes : (t : List ℕ) (r : ℕ) → 0 < r → r < state_area t → is_nonterminal t r ≡ true
unfolding is_nonterminal
nonterminal-yes t r h l = rw (le-leb 1 r (omega arith), lt-ltb _ _ l)

nonterminal-zero : (t : List ℕ) → is_nonterminal t 0 ≡ false
unfolding is_nonterminal
nonterminal-zero t = refl

nonterminal_no : (t : List ℕ) (r : ℕ) → state_area t ≤ r → is_nonterminal t r ≡ false
unfolding is_nonterminal
nonterminal_no t r h = rw (le-ltb _ _ h) (cases (leb 1 r) (λ e. rw e) (λ e. rw e))

state_yes : (t : List ℕ) (r : ℕ) → state_area t ≤ r → r < production_area t → is_state t r ≡ true
unfolding is_state
state_yes t r h l = rw (le-leb _ _ h, lt-ltb _ _ l)

state_low : (t : List ℕ) (r : ℕ) → r < state_area t → is_state t r ≡ false
unfolding is_state
state_low t r h = rw (lt-leb _ _ h)

state_high : (t : List ℕ) (r : ℕ) → production_area t ≤ r → is_state t r ≡ false
unfolding is_state
state_high t r h = rw (le-ltb _ _ h) (cases (leb (state_area t) r) (λ e. rw e) (λ e. rw e))

production-yes : (t : List ℕ) (r : ℕ) → production_area t ≤ r → r < loose t → is_production t r ≡ true
unfolding is_production
production-yes t r h l = rw (le-leb _ _ h, lt-ltb _ _ l)

production_low : (t : List ℕ) (r : ℕ) → r < production_area t → is_production t r ≡ false
unfolding is_production
production_low t r h = rw (lt-leb _ _ h)

production_high : (t : List ℕ) (r : ℕ) → loose t ≤ r → is_production t r ≡ false
unfolding is_production
production_high t r h = rw (le-ltb _ _ h) (cases (leb (production_area t) r) (λ e. rw e) (λ e. rw e))

-- ---- the rows by the places, as tests
place_rows : (t : List ℕ) (r : ℕ) (n s p y i e : Bool)
    → is_nonterminal t r ≡ n → is_state t r ≡ s → is_production t r ≡ p → as_symbol t r ≡ y → as_item t r ≡ i → as_edge t r ≡ e
    → fault_at t r
    ≡ chosen
    ((n && against (production_records t) r (word_at t r 0))
    || ((s && (against (loose_records t) r (word_at t r 0) || against (loose_records t) r (word_at t r 1)))
    || ((p && (against (production_records t) r (word_at t r 0) || against (loose_records t) r (word_at t r 1)))
    || index_bad t r y i e)))
    (p && not (eqb (occurrences r (joined (production_chain t) (below (word_at t 0 0)))) 1))
    (p && ltb 16 (length (symbol_chain t (r - production_area t))))
    (symbol_bad t r y e)
    (range_bad t r i e)
    ((n && (used t r 1 || (used t r 2 || used t r 3))) || ((s && (used t r 2 || used t r 3)) || spare_bad t r y i))
unfolding row3 row4 row5 row6 row8 index_bad symbol_bad spare_bad
place_rows t r n s p y i e en es ep ey ei ee = six t r ∙ rw (en, es, ep, ey, ei, ee)

-- record 0, a nonterminal, a state, a production, a loose record
module _ (t : List ℕ) (r : ℕ) where
  none_shape : chosen (false || (false || (false || false))) false false false false (false || (false || false)) ≡ 0
  unfolding chosen choose
  none_shape = refl

  pub fault-zero : r ≡ 0 → 0 ≡ fault_at t r
  unfolding index_bad symbol_bad range_bad spare_bad state_area
  fault-zero z =
      let a : r < state_area t = omega arith in
      let p = states-before t in
      let l = productions-before t in
      sym (place_rows t r false false false false false false (rw z (nonterminal-zero t)) (state_low t r a) (production_low t r (omega arith))
      (no_symbol_lem t r (omega arith)) (no_item t r (omega arith)) (no_edge t r (omega arith))
      ∙ none_shape)

  nonterminal_shape : (a u v w : Bool) → chosen (a || (false || (false || false))) false false false false ((u || (v || w)) || (false || false)) ≡ choose a 3 (choose u 8 (choose v 8 (choose w 8 0)))
  unfolding chosen choose
  nonterminal_shape true u v w = refl
  nonterminal_shape false true v w = refl
  nonterminal_shape false false true w = refl
  nonterminal_shape false false false true = refl
  nonterminal_shape false false false false = refl

  pub fault-nonterminal : (r ≡ 0 → ⊥) → r < state_area t → fault_of_nonterminal t r ≡ fault_at t r
  unfolding index_bad symbol_bad range_bad spare_bad fault_of_nonterminal
  fault-nonterminal ne a =
      let p = states-before t in
      let l = productions-before t in
      sym (place_rows t r true false false false false false (nonterminal-yes t r (omega arith) a) (state_low t r a) (production_low t r (omega arith))
      (no_symbol_lem t r (omega arith)) (no_item t r (omega arith)) (no_edge t r (omega arith))
      ∙ nonterminal_shape (against (production_records t) r (word_at t r 0)) (used t r 1) (used t r 2) (used t r 3))

  state_shape : (a b v w : Bool) → chosen (false || ((a || b) || (false || false))) false false false false (false || ((v || w) || false)) ≡ choose a 3 (choose b 3 (choose v 8 (choose w 8 0)))
  unfolding chosen choose
  state_shape true b v w = refl
  state_shape false true v w = refl
  state_shape false false true w = refl
  state_shape false false false true = refl
  state_shape false false false false = refl

  pub fault_state : state_area t ≤ r → r < production_area t → fault_of_state t r ≡ fault_at t r
  unfolding index_bad symbol_bad range_bad spare_bad fault_of_state
  fault_state a b =
      let l = productions-before t in
      sym (place_rows t r false true false false false false (nonterminal_no t r a) (state_yes t r a b) (production_low t r b)
      (no_symbol_lem t r (omega arith)) (no_item t r (omega arith)) (no_edge t r (omega arith))
      ∙ state_shape (against (loose_records t) r (word_at t r 0)) (against (loose_records t) r (word_at t r 1)) (used t r 2) (used t r 3))

  production_shape : (a b o l : Bool) → chosen (false || (false || ((a || b) || false))) (not o) l false false (false || (false || false)) ≡ choose a 3 (choose b 3 (choose o (choose l 5 0) 4))
  unfolding chosen choose
  production_shape true b o l = refl
  production_shape false true o l = refl
  production_shape false false false l = refl
  production_shape false false true true = refl
  production_shape false false true false = refl

  pub fault-production : production_area t ≤ r → r < loose t → fault_of_production t r ≡ fault_at t r
  unfolding index_bad symbol_bad range_bad spare_bad fault_of_production
  fault-production a b =
      let p = states-before t in
      sym (place_rows t r false false true false false false (nonterminal_no t r (omega arith)) (state_high t r a) (production-yes t r a b)
      (no_symbol_lem t r b) (no_item t r b) (no_edge t r b)
      ∙ production_shape (against (production_records t) r (word_at t r 0)) (against (loose_records t) r (word_at t r 1))
      (eqb (occurrences r (joined (production_chain t) (below (word_at t 0 0)))) 1) (ltb 16 (length (symbol_chain t (r - production_area t)))))

  pub fault-loose : loose t ≤ r → (s i e : Bool) → s ≡ as_symbol t r → i ≡ as_item t r → e ≡ as_edge t r → fault_of_loose t r s i e ≡ fault_at t r
  unfolding fault_of_loose chosen choose
  fault-loose a s i e es ei ee =
      let p = states-before t in
      let l = productions-before t in
      sym (place_rows t r false false false s i e (nonterminal_no t r (omega arith)) (state_high t r (omega arith)) (production_high t r a) (sym es) (sym ei) (sym ee))

-- ---- what a loose record is reached as, from the marks where all before it are passed
module _ (t : List ℕ) (r : ℕ) (ss is es : List ℕ) (R : Reaching t r ss is es) (low : loose t ≤ r) where
  pub fault-marked : (s i e : Bool) → s ≡ bit_at ss r → i ≡ bit_at is r → e ≡ bit_at es r → fault_of_loose t r s i e ≡ fault_at t r
  fault-marked s i e ps pi pe =
      fault-loose t r low s i e (ps ∙ marked R.symbols ∙ sym (symbol_is t r)) (pi ∙ marked R.items ∙ sym (item_is t r))
      (pe ∙ marked R.edges ∙ sym (edge_is_lem t r))

-- ---- the length as far as seventeen
module _ (t : List ℕ) (room : loose t ≤ records t) where
  short : first? (offends 5 t) (below (records t)) ≡ none → (p : ℕ) → p < productions t → length (symbol_chain t p) ≤ 16
  unfolding offends row5 loose
  short e p h =
      let q : production_area t + p - production_area t ≡ p = omega arith in
      let n = first?-below-none (offends 5 t) (records t) (production_area t + p) e (omega arith) in
      let w : ltb 16 (length (symbol_chain t (production_area t + p - production_area t))) ≡ false = rw (production-yes t (production_area t + p) (omega arith) (omega arith)) at n in
      ltb-false 16 (length (symbol_chain t p)) (rw q at w)

  item_same : first? (offends 5 t) (below (records t)) ≡ none → (r : ℕ) → item_bad t r ≡ (leb (productions t) (word_at t r 1) || ltb (length (symbol_chain t (word_at t r 1))) (word_at t r 2))
  unfolding item_bad
  item_same e r =
      cases (leb (productions t) (word_at t r 1))
      (λ q. rw q)
      (λ q.
      let s = short e (word_at t r 1) (leb-false _ _ q) in
      let m : min index_limit (length (symbol_chain t (word_at t r 1))) ≡ length (symbol_chain t (word_at t r 1)) = omega arith in
      rw m)

  tried_other : (n r : ℕ) → (n ≡ 7 → ⊥) → tried t n r ≡ offends n t r
  unfolding tried
  tried_other n r ne = rw (ne_eqb n 7 ne, tried)

  tried_seven : first? (offends 5 t) (below (records t)) ≡ none → (r : ℕ) → tried t 7 r ≡ offends 7 t r
  unfolding tried offends row7 range_bad
  tried_seven e r = rw (item_same e r)

  first_agree : (f g : ℕ → Bool) (xs : List ℕ) → ((x : ℕ) → f x ≡ g x) → first? f xs ≡ first? g xs
  unfolding first?
  first_agree f g [] h = refl
  first_agree f g (x ∷ xs) h =
      let rest = first_agree f g xs h in
      cases (g x) (λ e. first?-yes f x xs (h x ∙ e) ∙ sym (first?-yes g x xs e)) (λ e. first?_no f x xs (h x ∙ e) ∙ rest ∙ sym (first?_no g x xs e))

  one_row : (n : ℕ) (ns : List ℕ) → ((r : ℕ) → tried t n r ≡ offends n t r) → (first? (offends n t) (below (records t)) ≡ none → first_by (tried t) (records t) ns ≡ first_row t ns)
      → first_by (tried t) (records t) (n ∷ ns) ≡ first_row t (n ∷ ns)
  one_row n ns h rest = go (first? (offends n t) (below (records t))) refl
    where
      same : first? (tried t n) (below (records t)) ≡ first? (offends n t) (below (records t))
      same = first_agree (tried t n) (offends n t) (below (records t)) h

      go : (o : Option ℕ) → first? (offends n t) (below (records t)) ≡ o → first_by (tried t) (records t) (n ∷ ns) ≡ first_row t (n ∷ ns)
      go none e = by_none (tried t) (records t) n ns (same ∙ e) ∙ rest e ∙ sym (row_none t n ns e)
      go (some r) e = by_some (tried t) (records t) n ns r (same ∙ e) ∙ sym (row_some t n ns r e)

  pub rows_same : first_by (tried t) (records t) (3 ∷ 4 ∷ 5 ∷ 6 ∷ 7 ∷ 8 ∷ []) ≡ first_row t (3 ∷ 4 ∷ 5 ∷ 6 ∷ 7 ∷ 8 ∷ [])
  unfolding first_by first_row
  rows_same =
      one_row 3 (4 ∷ 5 ∷ 6 ∷ 7 ∷ 8 ∷ []) (λ r. tried_other 3 r (omega arith)) (λ _.
      one_row 4 (5 ∷ 6 ∷ 7 ∷ 8 ∷ []) (λ r. tried_other 4 r (omega arith)) (λ _.
      one_row 5 (6 ∷ 7 ∷ 8 ∷ []) (λ r. tried_other 5 r (omega arith)) (λ five.
      one_row 6 (7 ∷ 8 ∷ []) (λ r. tried_other 6 r (omega arith)) (λ _.
      one_row 7 (8 ∷ []) (tried_seven five) (λ _.
      one_row 8 [] (λ r. tried_other 8 r (omega arith)) (λ _. refl))))))

  -- the end of the pass over the records
  rising : Rising 0 (3 ∷ 4 ∷ 5 ∷ 6 ∷ 7 ∷ 8 ∷ [])
  unfolding Rising
  rising = (omega arith, (omega arith, (omega arith, (omega arith, (omega arith, (omega arith, tt))))))

  pub pass_accepted : (r row place : ℕ) → r ≡ records t → row ≡ 0 → Best (fault_at t) r row place → Accepted ≡ first_row t (3 ∷ 4 ∷ 5 ∷ 6 ∷ 7 ∷ 8 ∷ [])
  unfolding fault_at lowest
  pass_accepted r row place e z b =
      by_accepted (tried t) (records t) (3 ∷ 4 ∷ 5 ∷ 6 ∷ 7 ∷ 8 ∷ []) 0 rising (λ j l. b.none z j (omega arith)) ∙ rows_same

  pub pass_refused : (r row place : ℕ) → r ≡ records t → (row ≡ 0 → ⊥) → Best (fault_at t) r row place → Refused row place ≡ first_row t (3 ∷ 4 ∷ 5 ∷ 6 ∷ 7 ∷ 8 ∷ [])
  unfolding fault_at lowest
  pass_refused r row place e ne b = by_refused (tried t) (records t) (3 ∷ 4 ∷ 5 ∷ 6 ∷ 7 ∷ 8 ∷ []) 0 row place rising ne (rw e at b) ∙ rows_same
