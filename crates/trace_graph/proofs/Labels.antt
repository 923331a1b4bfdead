-- The tests of specs/Graph decide equality: symbols, symbol sets, nodes, edges; and an item's label is its index with its production's symbols.
use Rattle.std.proofs.Common.{◌≡◌, ℕ, suc, ◌≤◌, true, ◌&&◌, eqb, List, [], ◌∷◌, length, take, drop, sym, refl, ap, ◌∙◌, true≢false, add-one, arith, take-append-drop, length-take-le, drop-drop, eq-eqb, eqb-true}
use mathlib.Core.Option.{Option, none, some}
use Rattle.lr1_base.specs.repr.Meaning.{Symbol, is_same_symbol, Item, Production}
use Rattle.lr1_base.proofs.repr.SameSymbol.{same_equal, same_refl}
use Rattle.lr1_base.specs.item.Items.{Sets, first, symbol_sets}
use Rattle.trace_graph.specs.Graph.{Node, at_nonterminal, at_item, same_item, is_same_node, TraceEdge, label_of, same_symbols, same_cursor, same_sets, is_same_edge}
use Rattle.lr1_base.proofs.laws.Bools.{both, and_left, and_right, agree}

-- symbols

pub symbols_equal : (xs ys : List Symbol) → same_symbols xs ys ≡ true → xs ≡ ys
unfolding same_symbols
symbols_equal [] [] e = refl
symbols_equal [] (y ∷ ys) e = absurd (true≢false (sym e))
symbols_equal (x ∷ xs) [] e = absurd (true≢false (sym e))
symbols_equal (x ∷ xs) (y ∷ ys) e =
    let p = same_equal x y (and_left _ _ e) in
    let q = symbols_equal xs ys (and_right (is_same_symbol x y) _ e) in
    cc

pub symbols_refl : (xs : List Symbol) → same_symbols xs xs ≡ true
unfolding same_symbols
symbols_refl [] = refl
symbols_refl (x ∷ xs) = both _ _ (same_refl x) (symbols_refl xs)

pub cursor_equal : (x y : Option Symbol) → same_cursor x y ≡ true → x ≡ y
unfolding same_cursor
cursor_equal none none e = refl
cursor_equal none (some y) e = absurd (true≢false (sym e))
cursor_equal (some x) none e = absurd (true≢false (sym e))
cursor_equal (some x) (some y) e = ap {B = Option Symbol} some (same_equal x y e)

pub cursor_refl : (x : Option Symbol) → same_cursor x x ≡ true
unfolding same_cursor
cursor_refl none = refl
cursor_refl (some x) = same_refl x

-- symbol sets

pub sets_refl : (a : Sets) → same_sets a a ≡ true
unfolding same_sets
sets_refl a = both _ _ (symbols_refl a.prefix) (both _ _ (cursor_refl a.cursor) (symbols_refl a.suffix))

pub sets-parts : (a b : Sets) → same_sets a b ≡ true → (a.prefix ≡ b.prefix) × ((a.cursor ≡ b.cursor) × (a.suffix ≡ b.suffix))
unfolding same_sets
sets-parts a b e =
    let r = and_right (same_symbols a.prefix b.prefix) _ e in
    (symbols_equal _ _ (and_left _ _ e), (cursor_equal _ _ (and_left _ _ r), symbols_equal _ _ (and_right (same_cursor a.cursor b.cursor) _ r)))

pub sets_equal : (a b : Sets) → same_sets a b ≡ true → a ≡ b
sets_equal a b e = let p = sets-parts a b e in make p.0 p.1.0 p.1.1
  where
    make : {p q : List Symbol} {c d : Option Symbol} {s t : List Symbol} → p ≡ q → c ≡ d → s ≡ t
        → ◌≡◌ {A = Sets} (record { prefix = p; cursor = c; suffix = s }) (record { prefix = q; cursor = d; suffix = t })
    make x y z = rw (x, y, z)

-- labels

rest_equal : (xs ys : List Symbol) → first xs ≡ first ys → drop 1 xs ≡ drop 1 ys → xs ≡ ys
unfolding first
rest_equal [] [] e f = refl
rest_equal [] (y ∷ ys) e f = let z : ◌≡◌ {A = ℕ} 0 1 = cc in absurd (omega arith)
rest_equal (x ∷ xs) [] e f = let z : ◌≡◌ {A = ℕ} 0 1 = cc in absurd (omega arith)
rest_equal (x ∷ xs) (y ∷ ys) e f = cc

module _ (xs ys : List Symbol) (i j : ℕ) (hi : i ≤ length xs) (hj : j ≤ length ys) where
  pub label_parts : same_sets (symbol_sets xs i) (symbol_sets ys j) ≡ true → (i ≡ j) × (xs ≡ ys)
  unfolding symbol_sets
  label_parts e = (same, whole)
    where
      parts : (take i xs ≡ take j ys) × ((first (drop i xs) ≡ first (drop j ys)) × (drop (suc i) xs ≡ drop (suc j) ys))
      parts = sets-parts (symbol_sets xs i) (symbol_sets ys j) e

      same : i ≡ j
      same = sym (length-take-le i xs hi) ∙ ap length parts.0 ∙ length-take-le j ys hj

      one : (zs : List Symbol) (k : ℕ) → drop 1 (drop k zs) ≡ drop (suc k) zs
      one zs k = drop-drop 1 k zs ∙ rw (add-one k)

      rest : drop i xs ≡ drop j ys
      rest = rest_equal (drop i xs) (drop j ys) parts.1.0 (one xs i ∙ parts.1.1 ∙ sym (one ys j))

      whole : xs ≡ ys
      whole = sym (take-append-drop i xs) ∙ cc (parts.0, rest) ∙ take-append-drop j ys

  -- equal index and equal symbols
  pub same_label_is : same_sets (symbol_sets xs i) (symbol_sets ys j) ≡ (eqb i j && same_symbols xs ys)
  same_label_is =
      agree (same_sets (symbol_sets xs i) (symbol_sets ys j)) (eqb i j && same_symbols xs ys)
      (λ e. let w = label_parts e in both _ _ (eq-eqb i j w.0) (rw w.1 (symbols_refl ys)))
      (λ e.
      let p = eqb-true i j (and_left _ _ e) in
      let q = symbols_equal xs ys (and_right (eqb i j) _ e) in
      rw (p, q) (sets_refl (symbol_sets ys j)))

-- nodes

pub item_equal : (a b : Item) → same_item a b ≡ true → a ≡ b
unfolding same_item
item_equal a b e =
    make (eqb-true a.production b.production (and_left _ _ e)) (eqb-true a.index b.index (and_right (eqb a.production b.production) _ e))
  where
    make : {p q i j : ℕ} → p ≡ q → i ≡ j → ◌≡◌ {A = Item} (record { production = p; index = i }) (record { production = q; index = j })
    make x y = rw (x, y)

pub node_equal : (v w : Node) → is_same_node v w ≡ true → v ≡ w
unfolding is_same_node
node_equal (at_nonterminal n) (at_nonterminal m) e = ap {B = Node} at_nonterminal (eqb-true n m e)
node_equal (at_nonterminal n) (at_item b) e = absurd (true≢false (sym e))
node_equal (at_item a) (at_nonterminal m) e = absurd (true≢false (sym e))
node_equal (at_item a) (at_item b) e = ap {B = Node} at_item (item_equal a b e)

pub node_refl : (v : Node) → is_same_node v v ≡ true
unfolding is_same_node same_item
node_refl (at_nonterminal n) = eq-eqb n n refl
node_refl (at_item a) = both _ _ (eq-eqb a.production a.production refl) (eq-eqb a.index a.index refl)

pub node_same : (v w : Node) → v ≡ w → is_same_node v w ≡ true
node_same v w e = rw e (node_refl w)

-- edges

pub edge_parts : (ps : List Production) (e f : TraceEdge) → is_same_edge ps e f ≡ true
    → (e.source ≡ f.source) × ((e.target ≡ f.target) × (label_of ps e.label ≡ label_of ps f.label))
unfolding is_same_edge
edge_parts ps e f h =
    let r = and_right (is_same_node e.source f.source) _ h in (
      node_equal _ _ (and_left _ _ h),
      (
        node_equal _ _ (and_left _ _ r),
        sets_equal _ _ (and_right (is_same_node e.target f.target) _ r),
      ),
    )

pub edge_same : (ps : List Production) (e f : TraceEdge) → e.source ≡ f.source → e.target ≡ f.target → label_of ps e.label ≡ label_of ps f.label → is_same_edge ps e f ≡ true
unfolding is_same_edge
edge_same ps e f s t l = both _ _ (node_same _ _ s) (both _ _ (node_same _ _ t) (rw l (sets_refl (label_of ps f.label))))

pub edge_sym : (ps : List Production) (e f : TraceEdge) → is_same_edge ps e f ≡ is_same_edge ps f e
edge_sym ps e f = agree _ _ (turn e f) (turn f e)
  where
    turn : (a b : TraceEdge) → is_same_edge ps a b ≡ true → is_same_edge ps b a ≡ true
    turn a b h = let p = edge_parts ps a b h in edge_same ps b a (sym p.0) (sym p.1.0) (sym p.1.1)
