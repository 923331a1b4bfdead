-- Edges in words (specs/Words, specs/Values): an edge read from its words, written to them, and the first edges.
use Rattle.std.proofs.Common.{◌≡◌, ℕ, zero, suc, ◌+◌, ◌<◌, ◌≤◌, true, ltb, List, [], ◌∷◌, ◌++◌, map, length, get_or, set, sym, refl, ap, ◌∙◌, true≢false, add-one, arith, length-set, get_or-set_other, get_or-set_same, eqb-true}
use mathlib.Core.List.{map-append}
use native.Mathlib.Numerals.{add-two, add-three, add-four, add_five, add_six, add_seven}
use lib.Seq.{sets, length-sets}
use Rattle.lr1_base.specs.repr.Sizes.{edge_place}
use Rattle.lr1_base.specs.repr.Lists.{up_from, below}
use Rattle.lr1_base.specs.repr.Meaning.{Production}
use Rattle.lr1_base.proofs.repr.Lists.{below_last, length-map-below}
use Rattle.trace_graph.specs.declared.Node.{Node as NodeValue}
use Rattle.trace_graph.specs.declared.TraceEdge.{TraceEdge as EdgeValue}
use Rattle.trace_graph.specs.Graph.{Node, at_nonterminal, at_item, TraceEdge}
use Rattle.trace_graph.specs.Words.{node_words, edge_words, node_of, node_at, edge_at, edges_in}
use Rattle.trace_graph.specs.Fits.{node_fits, edge_is_fit}
use Rattle.trace_graph.specs.Values.{node_is, edge_is, node_value_fits, value_fits, node_read, edge_read, value_words, written, first_edges}
use Rattle.trace_graph.specs.Insert.{with_one_more}
use Rattle.lr1_base.proofs.laws.Bools.{and_left, and_right}
use Rattle.trace_graph.proofs.Stores.{stored_before, stored_after, stored_at}

-- what a value read says

pub node_read_lem : (ws : List ℕ) (at : ℕ) → node_is (node_read ws at) ≡ node_at ws at
unfolding node_is node_read node_at
node_read_lem ws at = refl

pub edge_read_lem : (ws : List ℕ) (k : ℕ) → edge_is (edge_read ws k) ≡ edge_at ws k
unfolding edge_is edge_read edge_at node_is node_read node_at
edge_read_lem ws k = refl

pub fits_read : (n : ℕ) (ps : List Production) (ws : List ℕ) (k : ℕ) → value_fits n ps (edge_read ws k) ≡ edge_is_fit n ps ws k
unfolding value_fits node_value_fits edge_read node_read edge_is_fit
fits_read n ps ws k =
    let a : edge_place k + 3 + 1 ≡ edge_place k + 4 = omega arith in
    let b : edge_place k + 3 + 2 ≡ edge_place k + 5 = omega arith in
    rw (a, b)

-- an edge's words

pub words_count : (v : EdgeValue) → length (value_words v) ≡ 8
unfolding value_words
words_count v = refl

read_of : (ws : List ℕ) (k : ℕ) (v : EdgeValue) → ((i : ℕ) → i < 8 → get_or ws (edge_place k + i) 0 ≡ get_or (value_words v) i 0) → edge_read ws k ≡ v
unfolding edge_read node_read value_words
read_of ws k v h =
    let a : edge_place k + 3 + 1 ≡ edge_place k + 4 = omega arith in
    let b : edge_place k + 3 + 2 ≡ edge_place k + 5 = omega arith in
    let z : edge_place k ≡ edge_place k + 0 = omega arith in
    make
    (ap (λ (i : ℕ). get_or ws i 0) z ∙ h 0 (omega arith)) (h 1 (omega arith)) (h 2 (omega arith))
    (h 3 (omega arith)) (ap (λ (i : ℕ). get_or ws i 0) a ∙ h 4 (omega arith)) (ap (λ (i : ℕ). get_or ws i 0) b ∙ h 5 (omega arith))
    (h 6 (omega arith)) (h 7 (omega arith))
  where
    node : ℕ → ℕ → ℕ → NodeValue
    node a b c = record { kind = a; number = b; index = c }

    edge : NodeValue → NodeValue → ℕ → ℕ → EdgeValue
    edge s t p i = record { source = s; target = t; label = record { production = p; index = i } }

    make : {a b c d e f p q a' b' c' d' e' f' p' q' : ℕ} → a ≡ a' → b ≡ b' → c ≡ c' → d ≡ d' → e ≡ e' → f ≡ f' → p ≡ p' → q ≡ q'
        → edge (node a b c) (node d e f) p q ≡ edge (node a' b' c') (node d' e' f') p' q'
    make x₀ x₁ x₂ x₃ x₄ x₅ x₆ x₇ = rw (x₀, x₁, x₂, x₃, x₄, x₅, x₆, x₇)

-- the ways through `read_node`, `read_edge` and `write_edge`
pub node_made : (ws : List ℕ) (at a b c : ℕ) → a ≡ get_or ws at 0 → b ≡ get_or ws (at + 1) 0 → c ≡ get_or ws (at + 2) 0
    → (node_is (record { kind = a; number = b; index = c }) ≡ node_at ws at) × (record { kind = a; number = b; index = c } ≡ node_read ws at)
unfolding node_is node_at node_read
node_made ws at a b c x y z = rw (x, y, z) (refl, refl)

pub edge_made : (ws : List ℕ) (k : ℕ) (s t : NodeValue) (p i : ℕ) → s ≡ node_read ws (edge_place k) → t ≡ node_read ws (edge_place k + 3) → p ≡ get_or ws (edge_place k + 6) 0 → i ≡ get_or ws (edge_place k + 7) 0
    → (edge_is (record { source = s; target = t; label = record { production = p; index = i } }) ≡ edge_at ws k) × (record { source = s; target = t; label = record { production = p; index = i } } ≡ edge_read ws k)
unfolding edge_read
edge_made ws k s t p i x y z w =
    let e : ◌≡◌ {A = EdgeValue} (record { source = s; target = t; label = record { production = p; index = i } }) (edge_read ws k) = rw (x, y, z, w) in
    (ap edge_is e ∙ edge_read_lem ws k, e)

pub words_stored : (ws : List ℕ) (k : ℕ) (v : EdgeValue)
    → set (set (set (set (set (set (set (set ws (edge_place k) v.source.kind) (edge_place k + 1) v.source.number) (edge_place k + 2) v.source.index) (edge_place k + 3) v.target.kind) (edge_place k + 4) v.target.number) (edge_place k + 5) v.target.index) (edge_place k + 6) v.label.production) (edge_place k + 7) v.label.index ≡ written ws k (value_words v)
unfolding written value_words
words_stored ws k v = rw (add-two (edge_place k), add-three (edge_place k), add-four (edge_place k), add_five (edge_place k), add_six (edge_place k), add_seven (edge_place k), add-one (edge_place k))

-- each word of an edge read
read_word : (ws : List ℕ) (k i : ℕ) → i < 8 → get_or (value_words (edge_read ws k)) i 0 ≡ get_or ws (edge_place k + i) 0
unfolding value_words edge_read node_read
read_word ws k zero h = ap (λ (i : ℕ). get_or ws i 0) (omega arith)
read_word ws k (suc zero) h = refl
read_word ws k (suc (suc zero)) h = refl
read_word ws k (suc (suc (suc zero))) h = refl
read_word ws k (suc (suc (suc (suc zero)))) h = ap (λ (i : ℕ). get_or ws i 0) (omega arith)
read_word ws k (suc (suc (suc (suc (suc zero))))) h = ap (λ (i : ℕ). get_or ws i 0) (omega arith)
read_word ws k (suc (suc (suc (suc (suc (suc zero)))))) h = refl
read_word ws k (suc (suc (suc (suc (suc (suc (suc zero))))))) h = refl
read_word ws k (suc (suc (suc (suc (suc (suc (suc (suc i)))))))) h = absurd (omega arith)

-- an edge whose words are unchanged is unchanged
pub read_kept : (ws ws' : List ℕ) (k : ℕ) → ((i : ℕ) → i < 8 → get_or ws' (edge_place k + i) 0 ≡ get_or ws (edge_place k + i) 0) → edge_read ws' k ≡ edge_read ws k
read_kept ws ws' k h = read_of ws' k (edge_read ws k) (λ i l. h i l ∙ sym (read_word ws k i l))

module _ (ws ws' : List ℕ) (k : ℕ) (e : edge_read ws' k ≡ edge_read ws k) where
  pub edge_kept : edge_at ws' k ≡ edge_at ws k
  edge_kept = sym (edge_read_lem ws' k) ∙ ap edge_is e ∙ edge_read_lem ws k

  pub fits_kept : (n : ℕ) (ps : List Production) → edge_is_fit n ps ws' k ≡ edge_is_fit n ps ws k
  fits_kept n ps = sym (fits_read n ps ws' k) ∙ ap (value_fits n ps) e ∙ fits_read n ps ws k

-- the value of an edge, whose words are its own
value_of : Node → NodeValue
value_of (at_nonterminal n) = record { kind = 0; number = n; index = 0 }
value_of (at_item i) = record { kind = 1; number = i.production; index = i.index }

pub edge_value : TraceEdge → EdgeValue
edge_value e = record { source = value_of e.source; target = value_of e.target; label = record { production = e.label.production; index = e.label.index } }

node_of_lem : (v : Node) → node_is (value_of v) ≡ v
unfolding value_of node_is node_of
node_of_lem (at_nonterminal n) = refl
node_of_lem (at_item i) = refl

pub value_is : (e : TraceEdge) → edge_is (edge_value e) ≡ e
unfolding edge_is edge_value
value_is e = make (node_of_lem e.source) (node_of_lem e.target)
  where
    make : {s t s' t' : Node} → s ≡ s' → t ≡ t' → ◌≡◌ {A = TraceEdge} (record { source = s; target = t; label = e.label }) (record { source = s'; target = t'; label = e.label })
    make x y = rw (x, y)

-- a value in range is that of its edge
own_node : (n : ℕ) (ps : List Production) (k a b : ℕ) → node_fits n ps k a b ≡ true → value_of (node_of k a b) ≡ record { kind = k; number = a; index = b }
unfolding node_fits value_of node_of
own_node n ps zero a b e = ap (λ (i : ℕ). record { kind = 0; number = a; index = i }) (sym (eqb-true b 0 (and_right (ltb a n) _ e)))
own_node n ps (suc zero) a b e = refl
own_node n ps (suc (suc k)) a b e = absurd (true≢false (sym e))

pub own_value : (n : ℕ) (ps : List Production) (v : EdgeValue) → value_fits n ps v ≡ true → edge_value (edge_is v) ≡ v
unfolding value_fits node_value_fits edge_is edge_value node_is
own_value n ps v e =
    let s = and_left _ _ e in
    let t = and_left _ _ (and_right (node_fits n ps v.source.kind v.source.number v.source.index) _ e) in
    make (own_node n ps v.source.kind v.source.number v.source.index s) (own_node n ps v.target.kind v.target.number v.target.index t)
  where
    make : {s t s' t' : NodeValue} → s ≡ s' → t ≡ t'
        → ◌≡◌ {A = EdgeValue} (record { source = s; target = t; label = v.label }) (record { source = s'; target = t'; label = v.label })
    make x y = rw (x, y)

node_words_lem : (v : Node) → node_words v ≡ (value_of v).kind ∷ (value_of v).number ∷ (value_of v).index ∷ []
unfolding node_words value_of
node_words_lem (at_nonterminal n) = refl
node_words_lem (at_item i) = refl

pub value_words_lem : (e : TraceEdge) → edge_words e ≡ value_words (edge_value e)
unfolding edge_words value_words edge_value
value_words_lem e = rw (node_words_lem e.source, node_words_lem e.target)

-- edge k written

module _ (ws : List ℕ) (k : ℕ) (v : EdgeValue) where
  pub written_long : length (written ws k (value_words v)) ≡ length ws
  unfolding written
  written_long = length-sets ws (edge_place k) (value_words v)

  pub read-written : edge_place (k + 1) ≤ length ws → edge_read (written ws k (value_words v)) k ≡ v
  unfolding written
  read-written l =
      let c = words_count v in
      read_of (written ws k (value_words v)) k v (λ i h. stored_at (value_words v) ws (edge_place k) i (omega arith) (omega arith))

  pub written-other : (j : ℕ) → (j ≡ k → ⊥) → edge_read (written ws k (value_words v)) j ≡ edge_read ws j
  unfolding written
  written-other j ne = read_kept ws (written ws k (value_words v)) j (λ i h. go i h (native.Mathlib.Decide.dec_lt j k))
    where
      go : (i : ℕ) → i < 8 → Dec (j < k) → get_or (sets ws (edge_place k) (value_words v)) (edge_place j + i) 0 ≡ get_or ws (edge_place j + i) 0
      go i h (yes l) = stored_before (value_words v) ws (edge_place k) (edge_place j + i) (omega arith)
      go i h (no g) = let c = words_count v in stored_after (value_words v) ws (edge_place k) (edge_place j + i) (omega arith)

-- a graph whose count is k, with an edge more
module _ (ws : List ℕ) (k : ℕ) (e : TraceEdge) (l : edge_place (k + 1) ≤ length ws) where
  pub more_is : with_one_more ws k e ≡ set (written ws k (value_words (edge_value e))) 0 (k + 1)
  unfolding with_one_more
  more_is = rw (value_words_lem e)

  pub more_long : length (with_one_more ws k e) ≡ length ws
  more_long = ap length more_is ∙ length-set (written ws k (value_words (edge_value e))) 0 (k + 1) ∙ written_long ws k (edge_value e)

  pub more_count : get_or (with_one_more ws k e) 0 0 ≡ k + 1
  more_count =
      let w = written_long ws k (edge_value e) in
      ap (λ (l : List ℕ). get_or l 0 0) more_is ∙ get_or-set_same (written ws k (value_words (edge_value e))) 0 (k + 1) 0 (omega arith)

  behind : (j : ℕ) → edge_read (with_one_more ws k e) j ≡ edge_read (written ws k (value_words (edge_value e))) j
  behind j =
      ap (λ (l : List ℕ). edge_read l j) more_is
      ∙ read_kept (written ws k (value_words (edge_value e))) (set (written ws k (value_words (edge_value e))) 0 (k + 1)) j (λ i h. get_or-set_other (written ws k (value_words (edge_value e))) 0 (edge_place j + i) (k + 1) 0 (λ q. omega arith))

  pub more-read : edge_read (with_one_more ws k e) k ≡ edge_value e
  more-read = behind k ∙ read-written ws k (edge_value e) l

  pub more_edge : edge_at (with_one_more ws k e) k ≡ e
  more_edge = sym (edge_read_lem (with_one_more ws k e) k) ∙ ap edge_is more-read ∙ value_is e

  pub more-other : (j : ℕ) → (j ≡ k → ⊥) → edge_read (with_one_more ws k e) j ≡ edge_read ws j
  more-other j ne = behind j ∙ written-other ws k (edge_value e) j ne

-- the first edges

pub edges_first : (ws : List ℕ) → edges_in ws ≡ first_edges ws (get_or ws 0 0)
unfolding edges_in first_edges
edges_first ws = refl

pub first-none : (ws : List ℕ) → first_edges ws 0 ≡ []
unfolding first_edges below up_from
first-none ws = refl

pub first_more : (ws : List ℕ) (k : ℕ) → first_edges ws (suc k) ≡ first_edges ws k ++ edge_at ws k ∷ []
unfolding first_edges
first_more ws k = ap (map (edge_at ws)) (below_last k) ∙ map-append (edge_at ws) (below k) (k ∷ [])

pub first_long : (ws : List ℕ) (k : ℕ) → length (first_edges ws k) ≡ k
unfolding first_edges
first_long ws k = length-map-below (edge_at ws) k

pub first-kept : (ws ws' : List ℕ) (k : ℕ) → ((j : ℕ) → j < k → edge_at ws' j ≡ edge_at ws j) → first_edges ws' k ≡ first_edges ws k
first-kept ws ws' zero h = first-none ws' ∙ sym (first-none ws)
first-kept ws ws' (suc k) h =
    first_more ws' k
    ∙ rw (first-kept ws ws' k (λ j l. h j (omega arith)), h k (omega arith)) (sym (first_more ws k))

-- one edge more is the last
pub edges_more : (ws : List ℕ) (e : TraceEdge) → edge_place (get_or ws 0 0 + 1) ≤ length ws → edges_in (with_one_more ws (get_or ws 0 0) e) ≡ edges_in ws ++ e ∷ []
edges_more ws e l =
    let k = get_or ws 0 0 in
    let s : k + 1 ≡ suc k = omega arith in
    edges_first (with_one_more ws k e) ∙ ap (first_edges (with_one_more ws k e)) (more_count ws k e l ∙ s) ∙ first_more (with_one_more ws k e) k
    ∙ rw (first-kept ws (with_one_more ws k e) k (λ j h. edge_kept ws (with_one_more ws k e) j (more-other ws k e l j (λ q. omega arith))), more_edge ws k e l) (rw (edges_first ws))
