-- A trace graph written in words (specs/Words) is read back, whatever stands behind it, and passes the check of a lent graph (specs/Fits) where its edges are in range, at most 1,024 and
-- no edge stands twice.
use Rattle.std.proofs.Common.{◌≡◌, ℕ, zero, suc, ◌+◌, ◌*◌, ◌<◌, ◌≤◌, Bool, true, ◌&&◌, List, [], ◌∷◌, ◌++◌, map, length, get_or, sym, refl, ap, ◌∙◌, append_assoc, append-nil, arith, get_or-append-add, ext_get_or, lt-ltb, le-leb}
use lib.ListN.{get_or-append}
use Rattle.lr1_base.specs.repr.Sizes.{edge_limit, edge_room, edge_place}
use Rattle.lr1_base.specs.repr.Lists.{below, joined}
use Rattle.lr1_base.specs.repr.Meaning.{Item, Production, All}
use Rattle.lr1_base.proofs.repr.Lists.{length-map-below, get_d_map-below, joined_cons}
use Rattle.lr1_base.proofs.repr.Tests.{All_at, every?_below_intro}
use Rattle.trace_graph.specs.Graph.{Node, at_nonterminal, at_item, TraceEdge}
use Rattle.trace_graph.specs.Words.{node_words, edge_words, graph_words, node_of, node_at, edge_at, edges_in}
use Rattle.trace_graph.specs.Fits.{item_is_fit, node_fits, edge_is_fit, once, graph_fits}
use Rattle.trace_graph.specs.Index.{InRange}
use Rattle.trace_graph.proofs.Front.{edge_words_lem}

-- eight words an edge

words_eight : (v w : Node) (i : Item) → length (node_words v ++ (node_words w ++ (i.production ∷ i.index ∷ []))) ≡ 8
unfolding node_words
words_eight (at_nonterminal n) (at_nonterminal m) i = refl
words_eight (at_nonterminal n) (at_item b) i = refl
words_eight (at_item a) (at_nonterminal m) i = refl
words_eight (at_item a) (at_item b) i = refl

-- the edge that eight words are
unfoldable pub edge_in : List ℕ → TraceEdge
edge_in w = record {
  source = node_of (get_or w 0 0) (get_or w 1 0) (get_or w 2 0);
  target = node_of (get_or w 3 0) (get_or w 4 0) (get_or w 5 0);
  label = record { production = get_or w 6 0; index = get_or w 7 0 };
}

read : (v w : Node) (i : Item) → edge_in (node_words v ++ (node_words w ++ (i.production ∷ i.index ∷ []))) ≡ record { source = v; target = w; label = i }
unfolding edge_in node_words node_of
read (at_nonterminal n) (at_nonterminal m) i = refl
read (at_nonterminal n) (at_item b) i = refl
read (at_item a) (at_nonterminal m) i = refl
read (at_item a) (at_item b) i = refl

pub edge_read_lem : (e : TraceEdge) → edge_in (edge_words e) ≡ e
unfolding edge_words
edge_read_lem e = read e.source e.target e.label

-- word c of edge k

body-word : (es : List TraceEdge) (rest : List ℕ) (k c : ℕ) (d : TraceEdge) → k < length es → c < 8
    → get_or (joined edge_words es ++ rest) (k * edge_room + c) 0 ≡ get_or (edge_words (get_or es k d)) c 0
body-word [] rest k c d h l = absurd (omega arith)
body-word (e ∷ es) rest zero c d h l =
    let n = edge_words_lem e in
    let z : 0 * edge_room + c ≡ c = omega arith in
    rw (joined_cons edge_words e es, append_assoc (edge_words e) (joined edge_words es) rest, z)
    (get_or-append (edge_words e) (joined edge_words es ++ rest) 0 c (omega arith))
body-word (e ∷ es) rest (suc k) c d h l =
    let n = edge_words_lem e in
    let z : suc k * edge_room + c ≡ length (edge_words e) + (k * edge_room + c) = omega arith in
    rw (joined_cons edge_words e es, append_assoc (edge_words e) (joined edge_words es) rest, z)
    (get_or-append-add (edge_words e) (joined edge_words es ++ rest) (k * edge_room + c) 0 ∙ body-word es rest k c d (omega arith) l)

module _ (es : List TraceEdge) (rest : List ℕ) (k : ℕ) (d : TraceEdge) (h : k < length es) where
  pub word_read : (c : ℕ) → c < 8 → get_or (graph_words es ++ rest) (edge_place k + c) 0 ≡ get_or (edge_words (get_or es k d)) c 0
  unfolding graph_words
  word_read c l =
      let z : edge_place k + c ≡ suc (k * edge_room + c) = omega arith in
      rw z (body-word es rest k c d h l)

  word-from : (a c : ℕ) → a ≡ edge_place k + c → c < 8 → get_or (graph_words es ++ rest) a 0 ≡ get_or (edge_words (get_or es k d)) c 0
  word-from a c e l = rw e (word_read c l)

  pub edge_at_lem : edge_at (graph_words es ++ rest) k ≡ get_or es k d
  unfolding edge_at node_at edge_in
  edge_at_lem = gathered ∙ edge_read_lem (get_or es k d)
    where
      gathered : edge_at (graph_words es ++ rest) k ≡ edge_in (edge_words (get_or es k d))
      gathered =
          let p0 = word-from (edge_place k) 0 (omega arith) (omega arith) in
          let p1 = word-from (edge_place k + 1) 1 refl (omega arith) in
          let p2 = word-from (edge_place k + 2) 2 refl (omega arith) in
          let p3 = word-from (edge_place k + 3) 3 refl (omega arith) in
          let p4 = word-from (edge_place k + 3 + 1) 4 (omega arith) (omega arith) in
          let p5 = word-from (edge_place k + 3 + 2) 5 (omega arith) (omega arith) in
          let p6 = word-from (edge_place k + 6) 6 refl (omega arith) in
          let p7 = word-from (edge_place k + 7) 7 refl (omega arith) in
          λ j. record { source = node_of (p0 j) (p1 j) (p2 j); target = node_of (p3 j) (p4 j) (p5 j); label = record { production = p6 j; index = p7 j } }

no_edge : TraceEdge
no_edge = record { source = at_nonterminal 0; target = at_nonterminal 0; label = record { production = 0; index = 0 } }

-- the count, and the edges read back
pub count_read : (es : List TraceEdge) (rest : List ℕ) → get_or (graph_words es ++ rest) 0 0 ≡ length es
unfolding graph_words
count_read es rest = refl

pub edges_back : (es : List TraceEdge) (rest : List ℕ) → edges_in (graph_words es ++ rest) ≡ es
unfolding edges_in
edges_back es rest =
    rw (count_read es rest)
    (ext_get_or no_edge (map (edge_at (graph_words es ++ rest)) (below (length es))) es (length-map-below (edge_at (graph_words es ++ rest)) (length es))
    (λ k h.
    let l : k < length es = rw (length-map-below (edge_at (graph_words es ++ rest)) (length es)) at h in
    get_d_map-below (edge_at (graph_words es ++ rest)) (length es) k no_edge l ∙ edge_at_lem es rest k no_edge l))

-- the graph check

-- both ends and the label in range
pub record EdgeInRange (n : ℕ) (ps : List Production) (e : TraceEdge) : Type 0 where
  pub source : InRange n ps e.source
  pub target : InRange n ps e.target
  pub label : item_is_fit ps e.label.production e.label.index ≡ true

module _ (n : ℕ) (ps : List Production) where
  -- of eight words as of an edge's place
  unfoldable pub words_fit : List ℕ → Bool
  words_fit w =
      node_fits n ps (get_or w 0 0) (get_or w 1 0) (get_or w 2 0)
      && (node_fits n ps (get_or w 3 0) (get_or w 4 0) (get_or w 5 0)
      && item_is_fit ps (get_or w 6 0) (get_or w 7 0))

  fit : (v w : Node) (i : Item) → InRange n ps v → InRange n ps w → item_is_fit ps i.production i.index ≡ true
      → words_fit (node_words v ++ (node_words w ++ (i.production ∷ i.index ∷ []))) ≡ true
  unfolding words_fit node_words node_fits InRange
  fit (at_nonterminal a) (at_nonterminal b) i p q r = rw (lt-ltb a n p, lt-ltb b n q) r
  fit (at_nonterminal a) (at_item b) i p q r = rw (lt-ltb a n p, q) r
  fit (at_item a) (at_nonterminal b) i p q r = rw (p, lt-ltb b n q) r
  fit (at_item a) (at_item b) i p q r = rw (p, q) r

  pub edge_words_fit : (e : TraceEdge) → EdgeInRange n ps e → words_fit (edge_words e) ≡ true
  unfolding edge_words
  edge_words_fit e h = fit e.source e.target e.label h.source h.target h.label

  pub edge_fits : (es : List TraceEdge) (rest : List ℕ) (k : ℕ) → k < length es → All (EdgeInRange n ps) es → edge_is_fit n ps (graph_words es ++ rest) k ≡ true
  unfolding edge_is_fit words_fit
  edge_fits es rest k h a =
      rw (
        word-from es rest k no_edge h (edge_place k) 0 (omega arith) (omega arith),
        word-from es rest k no_edge h (edge_place k + 1) 1 refl (omega arith),
        word-from es rest k no_edge h (edge_place k + 2) 2 refl (omega arith),
        word-from es rest k no_edge h (edge_place k + 3) 3 refl (omega arith),
        word-from es rest k no_edge h (edge_place k + 4) 4 refl (omega arith),
        word-from es rest k no_edge h (edge_place k + 5) 5 refl (omega arith),
        word-from es rest k no_edge h (edge_place k + 6) 6 refl (omega arith),
        word-from es rest k no_edge h (edge_place k + 7) 7 refl (omega arith),
      )
      (edge_words_fit (get_or es k no_edge) (All_at (EdgeInRange n ps) es k no_edge a h))

  pub graph_fits_lem : (es : List TraceEdge) (rest : List ℕ) → length es ≤ edge_limit → All (EdgeInRange n ps) es → once ps es ≡ true → graph_fits n ps (graph_words es ++ rest) ≡ true
  unfolding graph_fits
  graph_fits_lem es rest l a o =
      rw (
        count_read es rest,
        le-leb (length es) edge_limit l,
        edges_back es rest,
        o,
        every?_below_intro (edge_is_fit n ps (graph_words es ++ rest)) (length es) (λ k h. edge_fits es rest k h a),
      )

  pub graph_fits_alone : (es : List TraceEdge) → length es ≤ edge_limit → All (EdgeInRange n ps) es → once ps es ≡ true → graph_fits n ps (graph_words es) ≡ true
  graph_fits_alone es l a o = ap (graph_fits n ps) (sym (append-nil (graph_words es))) ∙ graph_fits_lem es [] l a o
