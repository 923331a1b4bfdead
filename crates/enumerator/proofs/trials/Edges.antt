-- The edges that a lent graph's words hold (specs/trials/Words and specs/Fits of trace_graph): all of them lie in the first 8,193 words.
use Rattle.std.proofs.Common.{◌≡◌, ℕ, zero, suc, ◌+◌, ◌<◌, ◌≤◌, true, eqb, ltb, leb, List, get_or, sym, ap, ◌∙◌, arith, ltb-true, leb-true}
use Rattle.lr1_base.specs.repr.Sizes.{edge_limit, edge_place}
use Rattle.lr1_base.specs.repr.Lists.{below, every?}
use Rattle.lr1_base.specs.repr.Meaning.{Production}
use Rattle.lr1_base.proofs.repr.Lists.{get_d_map-below}
use Rattle.lr1_base.proofs.repr.Tests.{every?_below}
use Rattle.trace_graph.specs.Graph.{at_nonterminal, TraceEdge, no_edge}
use Rattle.trace_graph.specs.Words.{node_of, node_at, edge_at, edges_in}
use Rattle.trace_graph.specs.Fits.{node_fits, edge_is_fit, once, graph_fits}
use Rattle.enumerator.specs.trials.Trials.{ends_of, Small}
use Rattle.lr1_base.proofs.laws.Bools.{and_left, and_right}
use Rattle.trace_graph.proofs.Front.{edges_long}

pub edges_at_lem : (ws : List ℕ) (k : ℕ) → k < get_or ws 0 0 → get_or (edges_in ws) k no_edge ≡ edge_at ws k
unfolding edges_in
edges_at_lem ws k h = get_d_map-below (edge_at ws) (get_or ws 0 0) k no_edge h

pub source_at : (ws : List ℕ) (k : ℕ) → k < get_or ws 0 0 → (ends_of (edges_in ws)).source k ≡ node_at ws (edge_place k)
unfolding edge_at
source_at ws k h = ap (λ (e : TraceEdge). e.source) (edges_at_lem ws k h)

pub target_at : (ws : List ℕ) (k : ℕ) → k < get_or ws 0 0 → (ends_of (edges_in ws)).target k ≡ node_at ws (edge_place k + 3)
unfolding edge_at
target_at ws k h = ap (λ (e : TraceEdge). e.target) (edges_at_lem ws k h)

-- what a graph that fits is
module _ (n : ℕ) (ps : List Production) (ws : List ℕ) (fits : graph_fits n ps ws ≡ true) where
  pub few_edges : get_or ws 0 0 ≤ edge_limit
  unfolding graph_fits
  few_edges = leb-true (get_or ws 0 0) edge_limit (and_left (leb (get_or ws 0 0) edge_limit) _ fits)

  pub edge_fits : (k : ℕ) → k < get_or ws 0 0 → edge_is_fit n ps ws k ≡ true
  unfolding graph_fits
  edge_fits k h =
      every?_below (edge_is_fit n ps ws) (get_or ws 0 0) k
      (and_left (every? (edge_is_fit n ps ws) (below (get_or ws 0 0))) (once ps (edges_in ws)) (and_right (leb (get_or ws 0 0) edge_limit) _ fits)) h

  pub no_edge-twice : once ps (edges_in ws) ≡ true
  unfolding graph_fits
  no_edge-twice = and_right (every? (edge_is_fit n ps ws) (below (get_or ws 0 0))) (once ps (edges_in ws)) (and_right (leb (get_or ws 0 0) edge_limit) _ fits)

  source_fits : (k : ℕ) → k < get_or ws 0 0 → node_fits n ps (get_or ws (edge_place k) 0) (get_or ws (edge_place k + 1) 0) (get_or ws (edge_place k + 2) 0) ≡ true
  unfolding edge_is_fit
  source_fits k h = and_left (node_fits n ps (get_or ws (edge_place k) 0) (get_or ws (edge_place k + 1) 0) (get_or ws (edge_place k + 2) 0)) _ (edge_fits k h)

nonterminal-fits : (n : ℕ) (ps : List Production) (k a b m : ℕ) → node_fits n ps k a b ≡ true → node_of k a b ≡ at_nonterminal m → m < n
unfolding node_fits node_of
nonterminal-fits n ps zero a b m f e = let q : a ≡ m = cc in let h = ltb-true a n (and_left (ltb a n) (eqb b 0) f) in omega arith
nonterminal-fits n ps (suc zero) a b m f e = let z : ◌≡◌ {A = ℕ} 0 1 = cc in absurd (omega arith)
nonterminal-fits n ps (suc (suc k)) a b m f e = let z : ◌≡◌ {A = ℕ} 0 1 = cc in absurd (omega arith)

-- every nonterminal that an edge of a graph that fits comes from is below 32
pub small_of : (n : ℕ) (ps : List Production) (ws : List ℕ) → graph_fits n ps ws ≡ true → n ≤ 32 → Small (ends_of (edges_in ws))
unfolding node_at
small_of n ps ws fits few e m h q =
    let l : e < get_or ws 0 0 = omega (arith, edges_long ws) in
    let s = nonterminal-fits n ps (get_or ws (edge_place e) 0) (get_or ws (edge_place e + 1) 0) (get_or ws (edge_place e + 2) 0) m (source_fits n ps ws fits e l) (sym (source_at ws e l) ∙ q) in
    omega arith
