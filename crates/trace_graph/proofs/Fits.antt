-- Numbers in range (specs/Fits, specs/Values): items, nodes and edges of a table's productions in words.
use Rattle.std.proofs.Common.{◌≡◌, ℕ, zero, suc, ◌+◌, ◌*◌, ◌<◌, ◌≤◌, Bool, true, false, ◌&&◌, eqb, ltb, leb, List, length, get_or, sym, refl, ap, ◌∙◌, true≢false, arith, ltb-true, le-ltb, lt-ltb, eq-eqb, ne_eqb, eqb-true, leb-true}
use Rattle.lr1_base.specs.repr.Sizes.{nonterminal_limit, index_limit}
use Rattle.lr1_base.specs.words.Same.{same_words}
use Rattle.lr1_base.specs.repr.Meaning.{Production, no_production}
use Rattle.lr1_base.specs.repr.Listed.{listed}
use Rattle.lr1_base.specs.repr.Packed.{symbol_words, production_in, productions_in, Packed}
use Rattle.lr1_base.proofs.repr.Lists.{get_d_map-below}
use Rattle.lr1_base.proofs.repr.Parts.{symbols_long}
use Rattle.trace_graph.specs.declared.Node.{Node as NodeValue}
use Rattle.trace_graph.specs.declared.TraceEdge.{TraceEdge as EdgeValue}
use Rattle.trace_graph.specs.Graph.{same_item, is_same_node, label_of, same_symbols, same_sets}
use Rattle.trace_graph.specs.Words.{node_of}
use Rattle.trace_graph.specs.Fits.{item_is_fit, node_fits}
use Rattle.trace_graph.specs.Index.{number_of_node, InRange}
use Rattle.trace_graph.specs.Values.{node_is, same_value, node_value_fits, value_fits, SmallNode, SmallEdge}
use Rattle.lr1_base.proofs.laws.Bools.{and_left, and_right}
use Rattle.trace_graph.proofs.Labels.{same_label_is, symbols_refl}
use Rattle.trace_graph.proofs.Same.{words-symbols}
use Rattle.lr1_base.proofs.repr.Packed.{productions_long}

-- productions in words

pub production-symbols : (g : List ℕ) (m p : ℕ) → p < m → (get_or (productions_in g m) p no_production).symbols ≡ listed (symbol_words g p)
unfolding productions_in production_in
production-symbols g m p h = ap (λ (q : Production). q.symbols) (get_d_map-below (production_in g) m p no_production h)

-- items

pub item-parts : (ps : List Production) (p i : ℕ) → item_is_fit ps p i ≡ true → (p < length ps) × (i ≤ length (get_or ps p no_production).symbols)
unfolding item_is_fit
item-parts ps p i e = (ltb-true p (length ps) (and_left _ _ e), leb-true i (length (get_or ps p no_production).symbols) (and_right (ltb p (length ps)) _ e))

-- what range means for the productions of a packed table, with at most 32 nonterminals
pub record Bounds (n : ℕ) (ps : List Production) : Type 0 where
  pub nonterminals : n ≤ 32
  pub production : (p i : ℕ) → item_is_fit ps p i ≡ true → p < 128
  pub index : (p i : ℕ) → item_is_fit ps p i ≡ true → i ≤ 16

module _ (g : List ℕ) (m : ℕ) (P : Packed g m) where
  pub item-below : (p i : ℕ) → item_is_fit (productions_in g m) p i ≡ true → p < m
  item-below p i e = rw (productions_long g m) at (item-parts (productions_in g m) p i e).0

  pub item-within : (p i : ℕ) → item_is_fit (productions_in g m) p i ≡ true → i ≤ length (listed (symbol_words g p))
  item-within p i e = rw (production-symbols g m p (item-below p i e)) at (item-parts (productions_in g m) p i e).1

  pub bounds : (n : ℕ) → n ≤ 32 → Bounds n (productions_in g m)
  bounds n h = record {
    nonterminals = h;
    production = λ p i e. omega (arith, item-below p i e, P.few);
    index = λ p i e. let l = item-below p i e in omega (arith, item-within p i e, symbols_long g m p P l, P.short p l);
  }

  -- the ways through `item_fits`
  pub fits_at : (p i k : ℕ) → p < m → k ≡ length (listed (symbol_words g p)) → leb i k ≡ item_is_fit (productions_in g m) p i
  unfolding item_is_fit
  fits_at p i k h e = rw (productions_long g m, lt-ltb p m h, production-symbols g m p h, e)

  pub fits_past : (p i : ℕ) → m ≤ p → false ≡ item_is_fit (productions_in g m) p i
  unfolding item_is_fit
  fits_past p i h = rw (productions_long g m, le-ltb p m h)

-- what `same_label` is given
pub record Labels (g : List ℕ) (m p i q j : ℕ) : Type 0 where
  pub packed : Packed g m
  pub left : item_is_fit (productions_in g m) p i ≡ true
  pub right : item_is_fit (productions_in g m) q j ≡ true

-- the ways through it
module _ {g : List ℕ} {m p i q j : ℕ} (L : Labels g m p i q j) where
  pub left_below : p < m
  left_below = item-below g m L.packed p i L.left

  pub right_below : q < m
  right_below = item-below g m L.packed q j L.right

  label_is : same_sets (label_of (productions_in g m) (record { production = p; index = i })) (label_of (productions_in g m) (record { production = q; index = j }))
      ≡ (eqb i j && same_symbols (listed (symbol_words g p)) (listed (symbol_words g q)))
  unfolding label_of
  label_is =
      rw (production-symbols g m p left_below, production-symbols g m q right_below) (same_label_is (listed (symbol_words g p)) (listed (symbol_words g q)) i j (item-within g m L.packed p i L.left) (item-within g m L.packed q j L.right))

  pub label_one : p ≡ q
      → eqb i j ≡ same_sets (label_of (productions_in g m) (record { production = p; index = i })) (label_of (productions_in g m) (record { production = q; index = j }))
  label_one f = sym (label_is ∙ rw (f, symbols_refl (listed (symbol_words g q))) (mathlib.Core.Bool.and-true (eqb i j)))

  pub label_index : (i ≡ j → ⊥)
      → false ≡ same_sets (label_of (productions_in g m) (record { production = p; index = i })) (label_of (productions_in g m) (record { production = q; index = j }))
  label_index ne = sym (label_is ∙ rw (ne_eqb i j ne))

  pub label_words_lem : {r : Bool} {a b : List ℕ} → i ≡ j → a ≡ symbol_words g p → b ≡ symbol_words g q → r ≡ same_words a b
      → r ≡ same_sets (label_of (productions_in g m) (record { production = p; index = i })) (label_of (productions_in g m) (record { production = q; index = j }))
  label_words_lem e ea eb w =
      (rw (ea, eb) at w) ∙ words-symbols (symbol_words g p) (symbol_words g q) (L.packed.fits p left_below) (L.packed.fits q right_below) ∙ sym (label_is ∙ rw (eq-eqb i j e))

-- nodes

module _ (n : ℕ) (ps : List Production) where
  -- the ways through `node_fits`
  pub kind_nonterminal : (v : NodeValue) → v.kind ≡ 0 → v.number < n → eqb v.index 0 ≡ node_value_fits n ps v
  unfolding node_value_fits node_fits
  kind_nonterminal v z h = rw (z, lt-ltb v.number n h)

  pub kind_past : (v : NodeValue) → v.kind ≡ 0 → n ≤ v.number → false ≡ node_value_fits n ps v
  unfolding node_value_fits node_fits
  kind_past v z h = rw (z, le-ltb v.number n h)

  pub kind_item : (v : NodeValue) → v.kind ≡ 1 → item_is_fit ps v.number v.index ≡ node_value_fits n ps v
  unfolding node_value_fits node_fits
  kind_item v z = rw z

  pub kind_other : (v : NodeValue) → (v.kind ≡ 0 → ⊥) → (v.kind ≡ 1 → ⊥) → false ≡ node_value_fits n ps v
  unfolding node_value_fits node_fits
  kind_other v a b = go v.kind a b
    where
      go : (k : ℕ) → (k ≡ 0 → ⊥) → (k ≡ 1 → ⊥) → false ≡ node_fits n ps k v.number v.index
      go zero a b = absurd (a refl)
      go (suc zero) a b = absurd (b refl)
      go (suc (suc k)) a b = refl

  -- a node in range
  node_range : (k a b : ℕ) → node_fits n ps k a b ≡ true → InRange n ps (node_of k a b)
  unfolding node_fits InRange node_of
  node_range zero a b e = ltb-true a n (and_left _ _ e)
  node_range (suc zero) a b e = e
  node_range (suc (suc k)) a b e = absurd (true≢false (sym e))

  pub value_range : (v : NodeValue) → node_value_fits n ps v ≡ true → InRange n ps (node_is v)
  unfolding node_value_fits node_is
  value_range v e = node_range v.kind v.number v.index e

  small : Bounds n ps → (k a b : ℕ) → node_fits n ps k a b ≡ true → (k < 2) × ((a < 128) × (b ≤ 16))
  unfolding node_fits
  small B zero a b e = (omega arith, (omega (arith, ltb-true a n (and_left _ _ e), B.nonterminals), omega (arith, eqb-true b 0 (and_right (ltb a n) _ e))))
  small B (suc zero) a b e = (omega arith, (B.production a b e, B.index a b e))
  small B (suc (suc k)) a b e = absurd (true≢false (sym e))

  pub small_node : Bounds n ps → (v : NodeValue) → node_value_fits n ps v ≡ true → SmallNode v
  unfolding node_value_fits
  small_node B v e = let s = small B v.kind v.number v.index e in record { kind = s.0; number = s.1.0; index = s.1.1 }

  -- of nodes in range the words say which they are
  same_of : (k a b l c d : ℕ) → node_fits n ps k a b ≡ true → node_fits n ps l c d ≡ true → (eqb k l && (eqb a c && eqb b d)) ≡ is_same_node (node_of k a b) (node_of l c d)
  unfolding node_fits node_of is_same_node same_item
  same_of zero a b zero c d e f =
      let x = eqb-true b 0 (and_right (ltb a n) _ e) in
      let y = eqb-true d 0 (and_right (ltb c n) _ f) in
      rw (eq-eqb b d (x ∙ sym y)) (mathlib.Core.Bool.and-true (eqb a c))
  same_of zero a b (suc zero) c d e f = refl
  same_of (suc zero) a b zero c d e f = refl
  same_of (suc zero) a b (suc zero) c d e f = refl
  same_of (suc (suc k)) a b l c d e f = absurd (true≢false (sym e))
  same_of zero a b (suc (suc l)) c d e f = absurd (true≢false (sym f))
  same_of (suc zero) a b (suc (suc l)) c d e f = absurd (true≢false (sym f))

  pub same_value_lem : (v w : NodeValue) → node_value_fits n ps v ≡ true → node_value_fits n ps w ≡ true → same_value v w ≡ is_same_node (node_is v) (node_is w)
  unfolding node_value_fits same_value node_is
  same_value_lem v w e f = same_of v.kind v.number v.index w.kind w.number w.index e f

-- the ways through `same_node`
module _ (v w : NodeValue) where
  pub kinds_differ : (v.kind ≡ w.kind → ⊥) → false ≡ same_value v w
  unfolding same_value
  kinds_differ ne = rw (ne_eqb _ _ ne)

  pub numbers_differ : v.kind ≡ w.kind → (v.number ≡ w.number → ⊥) → false ≡ same_value v w
  unfolding same_value
  numbers_differ e ne = rw (eq-eqb _ _ e, ne_eqb _ _ ne)

  pub index_decides : v.kind ≡ w.kind → v.number ≡ w.number → eqb v.index w.index ≡ same_value v w
  unfolding same_value
  index_decides e f = rw (eq-eqb _ _ e, eq-eqb _ _ f)

-- `node_number`
pub number-nonterminal : (v : NodeValue) → v.kind ≡ 0 → v.number ≡ number_of_node (node_is v)
unfolding number_of_node node_is node_of
number-nonterminal v e = rw e

pub number-item : (v : NodeValue) → (v.kind ≡ 0 → ⊥) → nonterminal_limit + (v.number * index_limit + v.index) ≡ number_of_node (node_is v)
unfolding node_is number_of_node node_of
number-item v ne = go v.kind ne
  where
    go : (k : ℕ) → (k ≡ 0 → ⊥) → nonterminal_limit + (v.number * index_limit + v.index) ≡ number_of_node (node_of k v.number v.index)
    go zero a = absurd (a refl)
    go (suc k) a = refl

-- edges

module _ (n : ℕ) (ps : List Production) (v : EdgeValue) where
  module _ (e : value_fits n ps v ≡ true) where
    pub source_fits : node_value_fits n ps v.source ≡ true
    unfolding value_fits
    source_fits = and_left _ _ e

    rest-fits : node_value_fits n ps v.target && item_is_fit ps v.label.production v.label.index ≡ true
    unfolding value_fits
    rest-fits = and_right (node_value_fits n ps v.source) _ e

    pub target_fits : node_value_fits n ps v.target ≡ true
    target_fits = and_left _ _ rest-fits

    pub label_fits : item_is_fit ps v.label.production v.label.index ≡ true
    label_fits = and_right (node_value_fits n ps v.target) _ rest-fits

    pub small_edge : Bounds n ps → SmallEdge v
    small_edge B = record {
      source = small_node n ps B v.source source_fits;
      target = small_node n ps B v.target target_fits;
      production = B.production v.label.production v.label.index label_fits;
      index = B.index v.label.production v.label.index label_fits;
    }

  -- the ways through `edge_fits`
  pub source-out : node_value_fits n ps v.source ≡ false → false ≡ value_fits n ps v
  unfolding value_fits
  source-out e = rw e

  pub target_out : node_value_fits n ps v.source ≡ true → node_value_fits n ps v.target ≡ false → false ≡ value_fits n ps v
  unfolding value_fits
  target_out e f = rw (e, f)

  pub label_decides : node_value_fits n ps v.source ≡ true → node_value_fits n ps v.target ≡ true → item_is_fit ps v.label.production v.label.index ≡ value_fits n ps v
  unfolding value_fits
  label_decides e f = rw (e, f)

-- an edge of a packed table in range is small, and its label's production is one of the table's
pub value_small : (g : List ℕ) (m : ℕ) → Packed g m → (n : ℕ) → n ≤ 32 → (v : EdgeValue) → value_fits n (productions_in g m) v ≡ true → SmallEdge v × (v.label.production < m)
value_small g m P n h v e = (small_edge n (productions_in g m) v e (bounds g m P n h), item-below g m P v.label.production v.label.index (label_fits n (productions_in g m) v e))
