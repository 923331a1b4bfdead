-- The ways through `check_edge` and `check_graph`: a graph's edges are different from each other where each is different from those before it.
use Rattle.std.proofs.Common.{◌≡◌, ℕ, zero, suc, ◌+◌, ◌<◌, ◌≤◌, Bool, true, false, not, ◌&&◌, ◌||◌, leb, List, [], ◌∷◌, ◌++◌, length, get_or, replicate, sym, refl, ap, ◌∙◌, arith, le-leb, leb-true}
use mathlib.Core.Bool.{or-false}
use Rattle.lr1_base.specs.repr.Sizes.{edge_limit, graph_room}
use Rattle.lr1_base.specs.repr.Lists.{below, some?, every?}
use Rattle.lr1_base.specs.repr.Meaning.{Production}
use Rattle.lr1_base.specs.repr.Packed.{Packed, productions_in}
use Rattle.lr1_base.proofs.repr.Lists.{clash, below_last}
use Rattle.lr1_base.proofs.repr.Tests.{some?-nil, some?-cons, some?-append, every?_nil, every?_cons, every?_append, every?_below, every?_below_intro}
use Rattle.trace_graph.specs.declared.TraceEdge.{TraceEdge as EdgeValue}
use Rattle.trace_graph.specs.Graph.{TraceEdge, is_same_edge}
use Rattle.trace_graph.specs.Words.{edge_at}
use Rattle.trace_graph.specs.Fits.{edge_is_fit, once, graph_fits}
use Rattle.trace_graph.specs.Index.{bucket_number, bucket_limit, index_room}
use Rattle.trace_graph.specs.Values.{edge_is, value_fits, SmallEdge, edge_read, first_edges}
use Rattle.lr1_base.specs.hash_index.Chains.{chained}
use Rattle.trace_graph.specs.Insert.{Graphed, fresh}
use Rattle.lr1_base.proofs.laws.Bools.{both, and_left, and_right, never}
use Rattle.trace_graph.proofs.Labels.{edge_sym}
use Rattle.trace_graph.proofs.Words.{edge_read_lem, fits_read, first-none, first_more, edges_first}
use Rattle.trace_graph.proofs.Fits.{value_small}
use Rattle.trace_graph.proofs.Index.{index_none}
use Rattle.trace_graph.proofs.Inserts.{graphed_count, graphed_linked}

-- no edge twice, by earlier edges

move : (a b c d : Bool) → (not (a || b) && (c && not d)) ≡ ((not a && c) && not (b || d))
move true b c d = refl
move false true true true = refl
move false true true false = refl
move false true false d = refl
move false false c d = refl

pub once_last : (ps : List Production) (es : List TraceEdge) (e : TraceEdge) → once ps (es ++ e ∷ []) ≡ (once ps es && not (some? (is_same_edge ps e) es))
unfolding once
once_last ps [] e = rw (some?-nil (is_same_edge ps e))
once_last ps (x ∷ es) e =
    let one : some? (is_same_edge ps x) (e ∷ []) ≡ is_same_edge ps e x = some?-cons (is_same_edge ps x) e [] ∙ rw (some?-nil (is_same_edge ps x)) (or-false (is_same_edge ps x e)) ∙ edge_sym ps x e in
    rw (some?-append (is_same_edge ps x) es (e ∷ []), one, once_last ps es e, some?-cons (is_same_edge ps e) x es)
    (move (some? (is_same_edge ps x) es) (is_same_edge ps e x) (once ps es) (some? (is_same_edge ps e) es))

pub once-fresh : (ps : List Production) (ws : List ℕ) (k : ℕ) → once ps (first_edges ws k) ≡ every? (fresh ps ws) (below k)
unfolding once fresh
once-fresh ps ws zero = ap (once ps) (first-none ws) ∙ sym (every_none (fresh ps ws))
  where
    every_none : (t : ℕ → Bool) → every? t (below 0) ≡ true
    every_none t = every?_below_intro t 0 (λ k h. absurd (omega arith))
once-fresh ps ws (suc k) =
    ap (once ps) (first_more ws k) ∙ once_last ps (first_edges ws k) (edge_at ws k)
    ∙ sym (ap (every? (fresh ps ws)) (below_last k) ∙ every?_append (fresh ps ws) (below k) (k ∷ []) ∙ rw (sym (once-fresh ps ws k), one (fresh ps ws) k))
  where
    one : (t : ℕ → Bool) (j : ℕ) → every? t (j ∷ []) ≡ t j
    one t j = every?_cons t j [] ∙ rw (every?_nil t) (mathlib.Core.Bool.and-true (t j))

-- a graph's test

module _ (n : ℕ) (ps : List Production) (ws : List ℕ) where
  pub graph_parts : graph_fits n ps ws ≡ true → (get_or ws 0 0 ≤ edge_limit) × (((k : ℕ) → k < get_or ws 0 0 → edge_is_fit n ps ws k ≡ true) × ((k : ℕ) → k < get_or ws 0 0 → fresh ps ws k ≡ true))
  unfolding graph_fits
  graph_parts e =
      let r = and_right (leb (get_or ws 0 0) edge_limit) _ e in
      let o = and_right (every? (edge_is_fit n ps ws) (below (get_or ws 0 0))) _ r in (
        leb-true (get_or ws 0 0) edge_limit (and_left _ _ e),
        (
          (λ k l. every?_below (edge_is_fit n ps ws) (get_or ws 0 0) k (and_left _ _ r) l),
          (λ k l. every?_below (fresh ps ws) (get_or ws 0 0) k (sym (ap (once ps) (edges_first ws) ∙ once-fresh ps ws (get_or ws 0 0)) ∙ o) l),
        ),
      )

  pub graph_many : edge_limit < get_or ws 0 0 → false ≡ graph_fits n ps ws
  graph_many h = sym (never (graph_fits n ps ws) (λ e. omega (arith, (graph_parts e).0)))

  pub graph_bad : (k : ℕ) → k < get_or ws 0 0 → (r : Bool) → r ≡ (edge_is_fit n ps ws k && fresh ps ws k) → r ≡ false → false ≡ graph_fits n ps ws
  graph_bad k l r p z = sym (never (graph_fits n ps ws) (λ e. clash (edge_is_fit n ps ws k && fresh ps ws k) (let f = graph_parts e in both _ _ (f.1.0 k l) (f.1.1 k l)) (sym p ∙ z)))

  pub graph_good : get_or ws 0 0 ≤ edge_limit → ((k : ℕ) → k < get_or ws 0 0 → edge_is_fit n ps ws k ≡ true) → ((k : ℕ) → k < get_or ws 0 0 → fresh ps ws k ≡ true) → true ≡ graph_fits n ps ws
  unfolding graph_fits
  graph_good h f o =
      sym (both _ _ (le-leb (get_or ws 0 0) edge_limit h)
      (both _ _ (every?_below_intro (edge_is_fit n ps ws) (get_or ws 0 0) f)
      (ap (once ps) (edges_first ws) ∙ once-fresh ps ws (get_or ws 0 0) ∙ every?_below_intro (fresh ps ws) (get_or ws 0 0) o)))

-- one edge's test

-- what `check_edge` has of edge k, which is read as w
pub record Looked (g : List ℕ) (m n : ℕ) (ws ix : List ℕ) (k : ℕ) (w : EdgeValue) (b : Bool) : Type 0 where
  pub packed : Packed g m
  pub graph : Graphed n (productions_in g m) ws ix k
  pub low : k < edge_limit
  pub read : w ≡ edge_read ws k
  pub fits : b ≡ value_fits n (productions_in g m) w

-- the ways through it
module _ {g : List ℕ} {m n : ℕ} {ws ix : List ℕ} {k : ℕ} {w : EdgeValue} {b : Bool} (L : Looked g m n ws ix k w b) where
  fits_is : edge_is_fit n (productions_in g m) ws k ≡ b
  fits_is = sym (fits_read n (productions_in g m) ws k) ∙ ap (value_fits n (productions_in g m)) (sym L.read) ∙ sym L.fits

  whole : edge_is w ≡ edge_at ws k
  whole = ap edge_is L.read ∙ edge_read_lem ws k

  pub check_out : b ≡ false → false ≡ (edge_is_fit n (productions_in g m) ws k && fresh (productions_in g m) ws k)
  check_out z = sym (rw (fits_is ∙ z))

  module _ (y : b ≡ true) where
    pub check_fits : value_fits n (productions_in g m) w ≡ true
    check_fits = sym L.fits ∙ y

    pub check_small : SmallEdge w × (w.label.production < m)
    check_small = value_small g m L.packed n L.graph.nonterminals w check_fits

    module _ {r : Bool} (er : r ≡ some? (is_same_edge (productions_in g m) (edge_is w)) (first_edges ws k)) where
      fresh_is : (edge_is_fit n (productions_in g m) ws k && fresh (productions_in g m) ws k) ≡ not r
      unfolding fresh
      fresh_is = rw (fits_is ∙ y, ← whole, ← er)

      pub check_twice : r ≡ true → false ≡ (edge_is_fit n (productions_in g m) ws k && fresh (productions_in g m) ws k)
      check_twice z = sym (fresh_is ∙ rw z)

      pub check_new : r ≡ false → true ≡ (edge_is_fit n (productions_in g m) ws k && fresh (productions_in g m) ws k)
      check_new z = sym (fresh_is ∙ rw z)

      pub check_linked : {bucket : ℕ} {ix' : List ℕ} → (bucket ≡ bucket_number (productions_in g m) (edge_is w)) × (bucket < bucket_limit) → ix' ≡ chained ix bucket_limit bucket k
          → Graphed n (productions_in g m) ws ix' (k + 1)
      check_linked {bucket} eb ex =
          rw ex (graphed_linked n (productions_in g m) ws ix k L.graph L.low (fits_is ∙ y) bucket (eb.0 ∙ ap (bucket_number (productions_in g m)) whole) eb.1)

-- the turns of `check_graph`
pub record Checked (n : ℕ) (ps : List Production) (ws ix : List ℕ) (k : ℕ) : Type 0 where
  pub good : Graphed n ps ws ix k
  pub new : (j : ℕ) → j < k → fresh ps ws j ≡ true

pub checked_first : (ps : List Production) (n : ℕ) (ws ix : List ℕ) → n ≤ 32 → graph_room ≤ length ws → ix ≡ replicate index_room 0 → Checked n ps ws ix 0
checked_first ps n ws ix h l e = record {
  good = record {
    nonterminals = h;
    long = l;
    few = omega arith;
    fits = λ j q. absurd (omega arith);
    index = index_none ps ws ix e;
  };
  new = λ j q. absurd (omega arith);
}

pub checked_more : (n : ℕ) (ps : List Production) (ws ix ix' : List ℕ) (k : ℕ) → Checked n ps ws ix k → Graphed n ps ws ix' (k + 1) → (r : Bool) → r ≡ (edge_is_fit n ps ws k && fresh ps ws k) → r ≡ true → Checked n ps ws ix' (k + 1)
checked_more n ps ws ix ix' k C G r p z = record { good = G; new = λ j l. go j l (native.Mathlib.Decide.dec_lt j k) }
  where
    go : (j : ℕ) → j < k + 1 → Dec (j < k) → fresh ps ws j ≡ true
    go j l (yes q) = C.new j q
    go j l (no q) = let s : j ≡ k = omega arith in rw s (and_right (edge_is_fit n ps ws k) _ (sym p ∙ z))

pub checked_all : (n : ℕ) (ps : List Production) (ws ix : List ℕ) (k : ℕ) → Checked n ps ws ix k → k ≡ get_or ws 0 0 → (true ≡ graph_fits n ps ws) × Graphed n ps ws ix (get_or ws 0 0)
checked_all n ps ws ix k C e =
    let G = graphed_count n ps ws ix (get_or ws 0 0) k (sym e) C.good in
    (graph_good n ps ws G.few G.fits (λ j l. C.new j (omega arith)), G)
