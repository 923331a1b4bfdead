-- The labels of a graph's edges, made edge by edge (`view_edge`).
use Prim.Native.Nat.{ℕ, ◌+◌, ◌*◌, ◌/◌, ◌%◌, ◌≤◌, ◌<◌}
use native.Mathlib.Omega.{arith}
use native.Mathlib.Decide.{ℕ_discrete}
use mathlib.Core.Path.{◌≡◌, refl, sym, ap, subst, ◌∙◌}
use mathlib.Core.Bool.{true}
use mathlib.Core.List.{List}
use lib.ListN.{length, get_or, set, length-set}
use lib.Seq.{get_or-set_same, get_or-set_other}
use lib.Dec.{eqb}
use borrow.Author.Tests.{eqb-true, eqb-false}
use Rattle.lr1_base.specs.repr.Sizes.{index_limit, item_limit, edge_limit, production_place}
use Rattle.lr1_base.specs.repr.Meaning.{Production}
use Rattle.lr1_base.specs.repr.Packed.{Packed, productions_in}
use Rattle.lr1_base.proofs.repr.Lists.{cases}
use Rattle.trace_graph.specs.declared.TraceEdge.{TraceEdge as EdgeValue}
use Rattle.trace_graph.specs.Graph.{TraceEdge}
use Rattle.trace_graph.specs.Words.{edge_at, edges_in}
use Rattle.trace_graph.specs.Values.{node_is, edge_is, edge_read, node_value_fits, value_fits}
use Rattle.trace_graph.proofs.Words.{edge_read_lem, fits_read}
use Rattle.trace_graph.proofs.Fits.{item-parts, source_fits, label_fits, value_small}
use Rattle.enumerator.specs.example.Labels.{LabelFits}
use Rattle.enumerator.specs.trials.Lister.{owner_of_node, label_at}
use Rattle.enumerator.specs.trials.Stacks.{Ranged}
use Rattle.enumerator.proofs.trials.Edges.{edges_at_lem}
use Rattle.enumerator.specs.graph_view.View.{label_in, Labelled, EdgeRanged}
use Rattle.enumerator.proofs.graph_view.Owner.{owner_nonterminal, owner_item}
use Rattle.trace_graph.proofs.Front.{edges_long}

-- a label's item in one word
label_in_lem : (n p i : ℕ) → p < 128 → i ≤ 16 → label_in n (p * index_limit + i) ≡ record { nonterminal = n; production = p; index = i }
unfolding label_in
label_in_lem n p i hp hi =
    let m : (p * index_limit + i) % item_limit ≡ p * index_limit + i = omega arith in
    let a : (p * index_limit + i) / index_limit ≡ p = omega arith in
    let b : (p * index_limit + i) % index_limit ≡ i = omega arith in
    rw (m, a, b)

-- the labels of the first k edges
pub record Labelling (ps : List Production) (es : List TraceEdge) (owners codes : List ℕ) (k : ℕ) : Type 0 where
  pub by_owner : length owners ≡ edge_limit
  pub by_code : length codes ≡ edge_limit
  pub label : (e : ℕ) → e < k → label_in (get_or owners e 0) (get_or codes e 0) ≡ label_at ps es e
  pub fits : (e : ℕ) → e < k → LabelFits ps (label_at ps es e)

pub labelling_first : {ps : List Production} {es : List TraceEdge} {owners codes : List ℕ} → length owners ≡ edge_limit → length codes ≡ edge_limit → Labelling ps es owners codes 0
labelling_first o c = record { by_owner = o; by_code = c; label = λ e h. absurd (omega arith); fits = λ e h. absurd (omega arith) }

-- one edge more
labelling_put : {ps : List Production} {es : List TraceEdge} {owners codes : List ℕ} {k : ℕ} → Labelling ps es owners codes k → k < edge_limit
    → (o c : ℕ) → label_in o c ≡ label_at ps es k → LabelFits ps (label_at ps es k) → Labelling ps es (set owners k o) (set codes k c) (k + 1)
labelling_put {ps} {es} {owners} {codes} {k} L low o c q f = record {
  by_owner = length-set owners k o ∙ L.by_owner;
  by_code = length-set codes k c ∙ L.by_code;
  label = λ e h. cases (eqb e k)
      (λ b. let z = eqb-true e k b in
      ap (λ (j : ℕ). label_in (get_or (set owners k o) j 0) (get_or (set codes k c) j 0)) z
      ∙ ap (λ (x : ℕ). label_in x (get_or (set codes k c) k 0)) (get_or-set_same owners k o 0 (omega (arith, L.by_owner)))
      ∙ ap (label_in o) (get_or-set_same codes k c 0 (omega (arith, L.by_code))) ∙ q ∙ ap (label_at ps es) (sym z))
      (λ b. let ne = eqb-false e k b in
      ap (λ (x : ℕ). label_in x (get_or (set codes k c) e 0)) (get_or-set_other owners k e o 0 ne)
      ∙ ap (label_in (get_or owners e 0)) (get_or-set_other codes k e c 0 ne) ∙ L.label e (less e h ne));
  fits = λ e h. cases (eqb e k)
      (λ b. subst (λ (j : ℕ). LabelFits ps (label_at ps es j)) (sym (eqb-true e k b)) f)
      (λ b. L.fits e (less e h (eqb-false e k b)));
}
  where
    less : (e : ℕ) → e < k + 1 → (e ≡ k → ⊥) → e < k
    less e h ne = omega arith

-- an edge in range
module _ {gr : List ℕ} {m : ℕ} (P : Packed gr m) {g : List ℕ} {k : ℕ} (E : EdgeRanged (productions_in gr m) g k) where
  abbrev n : ℕ
  n = E.nonterminals

  abbrev ps : List Production
  ps = productions_in gr m

  -- which is read
  module _ {v : EdgeValue} (q : v ≡ edge_read g k) where
    value_in : value_fits n ps v ≡ true
    value_in = ap (value_fits n ps) q ∙ fits_read n ps g k ∙ E.fits

    pub labelling_source : (n : ℕ) × (n ≤ 32) × (node_value_fits n ps v.source ≡ true)
    labelling_source = (n, E.few, source_fits n ps v value_in)

    pub labelling_small : (v.label.production < 128) × (v.label.index ≤ 16)
    labelling_small = let s = (value_small gr m P n E.few v value_in).0 in (s.production, s.index)

    pub owner_put : {o : ℕ} → o ≡ owner_of_node ps (node_is v.source) → o ≡ owner_of_node ps (edge_at g k).source
    unfolding edge_is
    owner_put e = e ∙ ap (λ (f : TraceEdge). owner_of_node ps f.source) (ap edge_is q ∙ edge_read_lem g k)

    pub code_put : v.label.production * index_limit + v.label.index ≡ (edge_at g k).label.production * index_limit + (edge_at g k).label.index
    unfolding edge_is
    code_put = ap (λ (f : TraceEdge). f.label.production * index_limit + f.label.index) (ap edge_is q ∙ edge_read_lem g k)

  owner_low : owner_of_node ps (edge_at g k).source < 32
  owner_low = rw (sym (owner_put refl refl)) (go (ℕ_discrete (edge_read g k).source.kind 0))
    where
      f : node_value_fits n ps (edge_read g k).source ≡ true
      f = source_fits n ps (edge_read g k) (value_in refl)

      go : Dec ((edge_read g k).source.kind ≡ 0) → owner_of_node ps (node_is (edge_read g k).source) < 32
      go (yes z) = let r = owner_nonterminal n ps (edge_read g k).source E.few f z in rw r.0 at r.1
      go (no ne) = let r = owner_item gr m P n (edge_read g k).source f ne (get_or gr (production_place (edge_read g k).source.number) 0) refl in rw r.0 at r.1

  pub labelling_more : {owners codes owners' codes' : List ℕ} → k < get_or g 0 0 → get_or g 0 0 ≤ edge_limit → Labelling ps (edges_in g) owners codes k
      → owners' ≡ set owners k (owner_of_node ps (edge_at g k).source) → codes' ≡ set codes k ((edge_at g k).label.production * index_limit + (edge_at g k).label.index)
      → Labelling ps (edges_in g) owners' codes' (k + 1)
  unfolding label_at edge_at edge_read
  labelling_more h l L eo ec =
      let s = labelling_small refl in
      let i = item-parts ps (edge_at g k).label.production (edge_at g k).label.index (label_fits n ps (edge_read g k) (value_in refl)) in
      let e : label_at ps (edges_in g) k ≡ record { nonterminal = owner_of_node ps (edge_at g k).source; production = (edge_at g k).label.production; index = (edge_at g k).label.index } = rw (edges_at_lem g k h) in
      rw (eo, ec)
      (labelling_put L (omega arith) (owner_of_node ps (edge_at g k).source) ((edge_at g k).label.production * index_limit + (edge_at g k).label.index)
      (label_in_lem (owner_of_node ps (edge_at g k).source) (edge_at g k).label.production (edge_at g k).label.index s.0 s.1 ∙ sym e)
      (subst (LabelFits ps) (sym e) (record { nonterminal = owner_low; production = i.0; index = i.1 })))

pub labelling_made : {ps : List Production} {g : List ℕ} → Ranged ps g → {owners codes : List ℕ} {k : ℕ} → k ≡ get_or g 0 0 → Labelling ps (edges_in g) owners codes k → Labelled ps (edges_in g) owners codes
labelling_made {g = g} R {k = k} ek L = record {
  few = omega (arith, edges_long g, R.few_edges);
  by_owner = L.by_owner;
  by_code = L.by_code;
  label = λ e h. L.label e (omega (arith, edges_long g));
  fits = λ e h. L.fits e (omega (arith, edges_long g));
}
