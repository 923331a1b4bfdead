-- Every edge that tracing adds is `edge_of` of its code (`code_edge`), and two such edges are the same exactly if their keys are equal (`same_key`).
use Rattle.std.proofs.Common.{◌≡◌, ℕ, ◌+◌, ◌*◌, ◌/◌, ◌%◌, ◌<◌, Bool, true, eqb, List, [], ◌∷◌, length, get_or, sym, refl, ap, ◌∙◌, true≢false, arith, eq-eqb, ne_eqb, eqb-true}
use mathlib.Core.Option.{Option, none, some}
use borrow.Author.Tests.{eqb-false}
use Rattle.lr1_base.specs.repr.Lists.{below, first?}
use Rattle.lr1_base.specs.repr.Meaning.{Symbol, nonterminal, terminal, Item, Production, no_production, Table, TableFits, ProductionFits, ItemFits, production_at}
use Rattle.lr1_base.proofs.repr.Lists.{cases, clash}
use Rattle.lr1_base.proofs.repr.Tests.{All_at, first?-nil, first?-yes, first?_no, first?-below, first?-below-none}
use Rattle.lr1_base.specs.item.Items.{symbol_sets, is_nonterminal, shifts_nonterminal}
use Rattle.table.specs.Decoded.{or_zero}
use Rattle.trace_graph.specs.Graph.{Node, at_nonterminal, at_item, TraceEdge, label_of, same_symbols, is_same_edge}
use Rattle.trace_graph.proofs.Labels.{symbols_equal, symbols_refl, sets_refl, label_parts, edge_parts, edge_same}
use Rattle.trace.specs.Traced.{owner_of, symbols_of, can_shift}
use Rattle.trace.specs.Sound.{owner_of_node, apart_ends, EdgeSound}
use Rattle.trace.proofs.Traced.{fits-item}
use Rattle.trace.specs.edge_codes.Codes.{kind_of, code_of, number_of, cursor_of, edge_by, item_in, edge_of, is_same_production, least_alike, key_by, key_of}
use Rattle.lr1_base.proofs.laws.Bools.{agree, and-true}
use Rattle.lr1_base.specs.item.Places.{item_place}

-- the nonterminal that an item can shift is the one at its cursor
shift_number : (x : Option Symbol) (n : ℕ) → is_nonterminal n x ≡ true → n ≡ number_of x
unfolding is_nonterminal number_of
shift_number none n e = absurd (true≢false (sym e))
shift_number (some (nonterminal m)) n e = sym (eqb-true m n e)
shift_number (some (terminal t)) n e = absurd (true≢false (sym e))

shift_cursor : (T : Table) (n : ℕ) (i : Item) → can_shift T n i ≡ true → n ≡ cursor_of T i
unfolding can_shift shifts_nonterminal cursor_of
shift_cursor T n i e = shift_number (symbol_sets (symbols_of T i) i.index).cursor n e

module _ (T : Table) where
  -- an edge is the one of its kind and label

  by_ends : (v w : Node) (i : Item) → EdgeSound T (record { source = v; target = w; label = i }) → record { source = v; target = w; label = i } ≡ edge_by T (kind_of v w) i
  unfolding edge_by kind_of apart_ends owner_of_node
  by_ends (at_nonterminal n) (at_item j) i t =
      let o = t.owner in
      let q = t.to_item j refl in
      rw (o, q)
  by_ends (at_nonterminal n) (at_nonterminal m) i t =
      let o = t.owner in
      let q = shift_cursor T m i (t.cursor m refl) in
      rw (o, q)
  by_ends (at_item j) (at_nonterminal m) i t =
      let o = t.from_item_lem j refl in
      let q = shift_cursor T m i (t.cursor m refl) in
      rw (o, q)
  by_ends (at_item j) (at_item m) i t = absurd (true≢false (sym t.apart))

  pub edge_by_lem : (e : TraceEdge) → EdgeSound T e → e ≡ edge_by T (kind_of e.source e.target) e.label
  edge_by_lem e t = by_ends e.source e.target e.label t

  -- the numbers of a word

  kind_few : (v w : Node) → kind_of v w < 3
  unfolding kind_of
  kind_few (at_nonterminal n) (at_item j) = omega arith
  kind_few (at_nonterminal n) (at_nonterminal m) = omega arith
  kind_few (at_item i) w = omega arith

  module _ (fits : TableFits T) where
    pub label_small : (i : Item) → ItemFits T i → (i.production < 128) × (i.index < 17)
    label_small i h =
        let p = h.production in
        let few = fits.few_productions_lem in
        let short = (All_at (ProductionFits T) T.productions i.production no_production fits.productions h.production).short in
        let x = h.index in
        (omega arith, omega arith)

  in_word : (k : ℕ) (i : Item) → i.production < 128 → i.index < 17 → ((k * 2176 + item_place i) / 2176 ≡ k) × (item_in (k * 2176 + item_place i) ≡ i)
  unfolding item_place item_in
  in_word k i p x =
      let a : (k * 2176 + (i.production * 17 + i.index)) / 2176 ≡ k = omega arith in
      let m : (k * 2176 + (i.production * 17 + i.index)) % 2176 ≡ i.production * 17 + i.index = omega arith in
      let b : (i.production * 17 + i.index) / 17 ≡ i.production = omega arith in
      let c : (i.production * 17 + i.index) % 17 ≡ i.index = omega arith in
      (a, rw (m, b, c))

  module _ (fits : TableFits T) (e : TraceEdge) (t : EdgeSound T e) where
    small : (e.label.production < 128) × (e.label.index < 17)
    small = label_small fits e.label (fits-item T e.label t.label)

    -- a word of three times 2,176
    pub code_few : code_of e < 6528
    unfolding code_of item_place
    code_few = let s = small in let k = kind_few e.source e.target in omega (arith, s.0, s.1)

    pub code_edge : edge_of T (code_of e) ≡ e
    unfolding edge_of code_of
    code_edge =
        let w = in_word (kind_of e.source e.target) e.label small.0 small.1 in
        rw (w.0, w.1) (sym (edge_by_lem e t))

    -- the key of its word
    pub key_edge : key_of T.productions (code_of e) ≡ key_by T.productions (kind_of e.source e.target) e.label
    unfolding key_of code_of
    key_edge =
        let w = in_word (kind_of e.source e.target) e.label small.0 small.1 in
        rw (w.0, w.1)

-- the least production of the same nonterminal and symbols

same_parts : (ps : List Production) (p q : ℕ) → is_same_production ps p q ≡ true
    → ((get_or ps p no_production).nonterminal ≡ (get_or ps q no_production).nonterminal) × ((get_or ps p no_production).symbols ≡ (get_or ps q no_production).symbols)
unfolding is_same_production
same_parts ps p q e =
    let r = and-true (eqb (get_or ps p no_production).nonterminal (get_or ps q no_production).nonterminal) (same_symbols (get_or ps p no_production).symbols (get_or ps q no_production).symbols) e in
    (eqb-true (get_or ps p no_production).nonterminal (get_or ps q no_production).nonterminal r.0, symbols_equal (get_or ps p no_production).symbols (get_or ps q no_production).symbols r.1)

pub same_refl : (ps : List Production) (p : ℕ) → is_same_production ps p p ≡ true
unfolding is_same_production
same_refl ps p = rw (eq-eqb (get_or ps p no_production).nonterminal (get_or ps p no_production).nonterminal refl) (symbols_refl (get_or ps p no_production).symbols)

first_agree : (t u : ℕ → Bool) (xs : List ℕ) → ((x : ℕ) → t x ≡ u x) → first? t xs ≡ first? u xs
first_agree t u [] h = first?-nil t ∙ sym (first?-nil u)
first_agree t u (x ∷ xs) h =
    let rest = first_agree t u xs h in
    cases (t x)
    (λ e. first?-yes t x xs e ∙ sym (first?-yes u x xs (sym (h x) ∙ e)))
    (λ e. first?_no t x xs e ∙ rest ∙ sym (first?_no u x xs (sym (h x) ∙ e)))

module _ (ps : List Production) where
  -- equal productions have one least
  least_same : (p q : ℕ) → (get_or ps p no_production).nonterminal ≡ (get_or ps q no_production).nonterminal → (get_or ps p no_production).symbols ≡ (get_or ps q no_production).symbols → least_alike ps p ≡ least_alike ps q
  unfolding least_alike is_same_production
  least_same p q a b = ap or_zero (first_agree (λ r. is_same_production ps r p) (λ r. is_same_production ps r q) (below (length ps)) (λ r. rw (a, b)))

  -- and the least is equal
  least_is : (p : ℕ) → p < length ps → is_same_production ps (least_alike ps p) p ≡ true
  unfolding least_alike or_zero
  least_is p h = go (first? (λ q. is_same_production ps q p) (below (length ps))) refl
    where
      go : (o : Option ℕ) → first? (λ q. is_same_production ps q p) (below (length ps)) ≡ o → is_same_production ps (or_zero (first? (λ q. is_same_production ps q p) (below (length ps)))) p ≡ true
      go none e = clash (is_same_production ps p p) (same_refl ps p) (first?-below-none (λ q. is_same_production ps q p) (length ps) p e h)
      go (some q) e = rw e (first?-below (λ q. is_same_production ps q p) (length ps) q e).1

  pub least_few : (p : ℕ) → p < length ps → least_alike ps p < length ps
  unfolding least_alike or_zero
  least_few p h = go (first? (λ q. is_same_production ps q p) (below (length ps))) refl
    where
      go : (o : Option ℕ) → first? (λ q. is_same_production ps q p) (below (length ps)) ≡ o → or_zero (first? (λ q. is_same_production ps q p) (below (length ps))) < length ps
      go none e = clash (is_same_production ps p p) (same_refl ps p) (first?-below-none (λ q. is_same_production ps q p) (length ps) p e h)
      go (some q) e = rw e (first?-below (λ q. is_same_production ps q p) (length ps) q e).0

  least-both : (p q : ℕ) → p < length ps → q < length ps → least_alike ps p ≡ least_alike ps q
      → ((get_or ps p no_production).nonterminal ≡ (get_or ps q no_production).nonterminal) × ((get_or ps p no_production).symbols ≡ (get_or ps q no_production).symbols)
  least-both p q hp hq e =
      let a = same_parts ps (least_alike ps p) p (least_is p hp) in
      let b = same_parts ps (least_alike ps p) q (rw e (least_is q hq)) in
      (sym a.0 ∙ b.0, sym a.1 ∙ b.1)

-- the two ways of a key

pub key_one : (ps : List Production) (i : Item) → key_by ps 1 i ≡ 2176 + (least_alike ps i.production * 17 + i.index)
unfolding key_by
key_one ps i = refl

pub key-other : (ps : List Production) (k : ℕ) (i : Item) → (k ≡ 1 → ⊥) → key_by ps k i ≡ k * 2176 + item_place i
unfolding key_by
key-other ps k i ne = rw (ne_eqb k 1 ne, key_by)

module _ (T : Table) (fits : TableFits T) where
  labels_equal : (i j : Item) → ItemFits T i → ItemFits T j → label_of T.productions i ≡ label_of T.productions j
      → (i.index ≡ j.index) × ((production_at T i.production).symbols ≡ (production_at T j.production).symbols)
  unfolding label_of
  labels_equal i j hi hj e =
      label_parts (production_at T i.production).symbols (production_at T j.production).symbols i.index j.index hi.index hj.index
      (rw e (sets_refl (symbol_sets (production_at T j.production).symbols j.index)))

  keys_by : (v w : Node) (i j : Item) → EdgeSound T (record { source = v; target = w; label = i }) → EdgeSound T (record { source = v; target = w; label = j })
      → label_of T.productions i ≡ label_of T.productions j → key_by T.productions (kind_of v w) i ≡ key_by T.productions (kind_of v w) j
  unfolding kind_of owner_of_node owner_of
  keys_by (at_nonterminal n) (at_item m) i j t u e = ap (key_by T.productions 0) (sym (t.to_item m refl) ∙ u.to_item m refl)
  keys_by (at_item m) w i j t u e = ap (key_by T.productions 2) (sym (t.from_item_lem m refl) ∙ u.from_item_lem m refl)
  keys_by (at_nonterminal n) (at_nonterminal m) i j t u e =
      let r = labels_equal i j (fits-item T i t.label) (fits-item T j u.label) e in
      let l = least_same T.productions i.production j.production (sym t.owner ∙ u.owner) r.1 in
      key_one T.productions i ∙ rw (l, r.0) (sym (key_one T.productions j))

  -- equal keys have equal kinds, and then equal labels or equal productions
  module _ (i j : Item) (hi : ItemFits T i) (hj : ItemFits T j) where
    rest : (k : ℕ) (l : Item) → ItemFits T l → (r : ℕ) × (r < 2176) × (key_by T.productions k l ≡ k * 2176 + r)
    unfolding item_place
    rest k l h =
        let s = label_small T fits l h in
        let a = s.0 in
        let b = s.1 in
        let few = fits.few_productions_lem in
        let c = least_few T.productions l.production h.production in
        cases (eqb k 1)
        (λ q. let e = eqb-true k 1 q in (least_alike T.productions l.production * 17 + l.index, omega arith, rw e (key_one T.productions l ∙ omega arith)))
        (λ q. (item_place l, omega arith, key-other T.productions k l (eqb-false k 1 q)))

    kinds : (k m : ℕ) → key_by T.productions k i ≡ key_by T.productions m j → k ≡ m
    kinds k m e =
        let a = rest k i hi in
        let b = rest m j hj in
        omega (arith, a.1, b.1, a.2, b.2)

    same_one : key_by T.productions 1 i ≡ key_by T.productions 1 j → is_same_edge T.productions (edge_by T 1 i) (edge_by T 1 j) ≡ true
    unfolding edge_by label_of owner_of cursor_of symbols_of
    same_one e =
        let a = (label_small T fits i hi).1 in
        let b = (label_small T fits j hj).1 in
        let x = key_one T.productions i in
        let y = key_one T.productions j in
        let p : least_alike T.productions i.production ≡ least_alike T.productions j.production = omega arith in
        let q : i.index ≡ j.index = omega arith in
        let r = least-both T.productions i.production j.production hi.production hj.production p in
        edge_same T.productions (edge_by T 1 i) (edge_by T 1 j) (rw r.0) (rw (r.1, q)) (rw (r.1, q))

    same_other : (k : ℕ) → (k ≡ 1 → ⊥) → key_by T.productions k i ≡ key_by T.productions k j → is_same_edge T.productions (edge_by T k i) (edge_by T k j) ≡ true
    same_other k ne e =
        let a = label_small T fits i hi in
        let b = label_small T fits j hj in
        let x = sym (key-other T.productions k i ne) ∙ e ∙ key-other T.productions k j ne in
        let q : i ≡ j = sym (in_word T k i a.0 a.1).1 ∙ ap item_in x ∙ (in_word T k j b.0 b.1).1 in
        rw q (edge_same T.productions (edge_by T k j) (edge_by T k j) refl refl refl)

    same_by : (k m : ℕ) → key_by T.productions k i ≡ key_by T.productions m j → is_same_edge T.productions (edge_by T k i) (edge_by T m j) ≡ true
    same_by k m e =
        let q = kinds k m e in
        rw q (let f : key_by T.productions m i ≡ key_by T.productions m j = rw q at e in
        cases (eqb m 1)
        (λ b. let o = eqb-true m 1 b in rw o (same_one (rw o at f)))
        (λ b. same_other m (eqb-false m 1 b) f))

  module _ (e f : TraceEdge) (t : EdgeSound T e) (u : EdgeSound T f) where
    to_keys : is_same_edge T.productions e f ≡ true → key_of T.productions (code_of e) ≡ key_of T.productions (code_of f)
    to_keys h =
        let p = edge_parts T.productions e f h in
        let u' : EdgeSound T (record { source = e.source; target = e.target; label = f.label }) = rw (p.0, p.1.0) u in
        key_edge T fits e t
        ∙ keys_by e.source e.target e.label f.label t u' p.1.1
        ∙ rw (p.0, p.1.0) (sym (key_edge T fits f u))

    from_keys : key_of T.productions (code_of e) ≡ key_of T.productions (code_of f) → is_same_edge T.productions e f ≡ true
    from_keys h =
        let q = same_by e.label f.label (fits-item T e.label t.label) (fits-item T f.label u.label) (kind_of e.source e.target) (kind_of f.source f.target)
        (sym (key_edge T fits e t) ∙ h ∙ key_edge T fits f u) in
        ap (λ (d : TraceEdge). is_same_edge T.productions d f) (edge_by_lem T e t) ∙ ap (is_same_edge T.productions (edge_by T (kind_of e.source e.target) e.label)) (edge_by_lem T f u) ∙ q

    pub same_key : is_same_edge T.productions e f ≡ eqb (key_of T.productions (code_of e)) (key_of T.productions (code_of f))
    same_key =
        agree (is_same_edge T.productions e f) (eqb (key_of T.productions (code_of e)) (key_of T.productions (code_of f)))
        (λ h. eq-eqb (key_of T.productions (code_of e)) (key_of T.productions (code_of f)) (to_keys h))
        (λ h. from_keys (eqb-true (key_of T.productions (code_of e)) (key_of T.productions (code_of f)) h))
