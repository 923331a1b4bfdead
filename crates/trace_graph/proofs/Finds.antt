-- The ways through `same_edge` and `find`: an equal edge is looked for among the edges in one bucket.
use Rattle.std.proofs.Common.{◌≡◌, ℕ, suc, ◌+◌, ◌-◌, ◌<◌, Bool, true, false, ◌&&◌, List, get_or, sym, ap, ◌∙◌, arith}
use native.Mathlib.Decide.{ℕ_discrete}
use borrow.Author.Tests.{eqb-false}
use Rattle.lr1_base.specs.repr.Sizes.{edge_limit}
use Rattle.lr1_base.specs.repr.Lists.{some?}
use Rattle.lr1_base.specs.repr.Meaning.{Production}
use Rattle.lr1_base.specs.repr.Packed.{Packed, productions_in}
use Rattle.trace_graph.specs.declared.TraceEdge.{TraceEdge as EdgeValue}
use Rattle.trace_graph.specs.Graph.{label_of, same_sets, is_same_edge}
use Rattle.trace_graph.specs.Words.{edge_at}
use Rattle.trace_graph.specs.Fits.{item_is_fit, edge_is_fit}
use Rattle.trace_graph.specs.Index.{bucket_number, in_bucket, bucket_limit}
use Rattle.trace_graph.specs.Values.{edge_is, same_value, value_fits, edge_read, first_edges}
use Rattle.trace_graph.specs.Insert.{Graphed}
use Rattle.lr1_base.proofs.laws.Bools.{never}
use Rattle.trace_graph.proofs.Words.{edge_read_lem, fits_read}
use Rattle.trace_graph.proofs.Fits.{same_value_lem, source_fits, target_fits, label_fits}
use Rattle.trace_graph.proofs.Buckets.{same_bucket}
use Rattle.trace_graph.proofs.Index.{Turn, turn_first, turn_end, turn_less, turn_found, turn_again}

-- an edge read from a graph in range
pub read_fits : (n : ℕ) (ps : List Production) (ws : List ℕ) (k : ℕ) (w : EdgeValue) → w ≡ edge_read ws k → edge_is_fit n ps ws k ≡ true → value_fits n ps w ≡ true
read_fits n ps ws k w e h = ap (value_fits n ps) e ∙ fits_read n ps ws k ∙ h

-- what `same_edge` has of an edge v and edge k, which is read as w
pub record Compared (n : ℕ) (ps : List Production) (ws : List ℕ) (k : ℕ) (v w : EdgeValue) : Type 0 where
  pub read : w ≡ edge_read ws k
  pub here : edge_is_fit n ps ws k ≡ true
  pub fits : value_fits n ps v ≡ true

-- the ways through it
module _ {n : ℕ} {ps : List Production} {ws : List ℕ} {k : ℕ} {v w : EdgeValue} (C : Compared n ps ws k v w) where
  pub left_label : item_is_fit ps v.label.production v.label.index ≡ true
  left_label = label_fits n ps v C.fits

  pub right_label : item_is_fit ps w.label.production w.label.index ≡ true
  right_label = label_fits n ps w (read_fits n ps ws k w C.read C.here)

  edge_is_lem : is_same_edge ps (edge_is v) (edge_at ws k) ≡ (same_value v.source w.source && (same_value v.target w.target && same_sets (label_of ps (record { production = v.label.production; index = v.label.index })) (label_of ps (record { production = w.label.production; index = w.label.index }))))
  unfolding is_same_edge edge_is
  edge_is_lem =
      let here = read_fits n ps ws k w C.read C.here in
      let sources = same_value_lem n ps v.source w.source (source_fits n ps v C.fits) (source_fits n ps w here) in
      let targets = same_value_lem n ps v.target w.target (target_fits n ps v C.fits) (target_fits n ps w here) in
      let whole : edge_at ws k ≡ edge_is w = sym (ap edge_is C.read ∙ edge_read_lem ws k) in
      rw (whole, sources, targets)

  module _ {r : Bool} (q : r ≡ same_value v.source w.source) where
    pub edge_source : r ≡ false → false ≡ is_same_edge ps (edge_is v) (edge_at ws k)
    edge_source z = sym (edge_is_lem ∙ rw (sym q ∙ z))

    module _ (y : r ≡ true) {t : Bool} (p : t ≡ same_value v.target w.target) where
      pub edge_target_no : t ≡ false → false ≡ is_same_edge ps (edge_is v) (edge_at ws k)
      edge_target_no z = sym (edge_is_lem ∙ rw (sym q ∙ y, sym p ∙ z))

      pub edge_yes : {l : Bool} → t ≡ true → l ≡ same_sets (label_of ps (record { production = v.label.production; index = v.label.index })) (label_of ps (record { production = w.label.production; index = w.label.index }))
          → l ≡ is_same_edge ps (edge_is v) (edge_at ws k)
      edge_yes z e = e ∙ sym (edge_is_lem ∙ rw (sym q ∙ y, sym p ∙ z))

-- what `find` is given
pub record Sought (g : List ℕ) (m n : ℕ) (ws ix : List ℕ) (k : ℕ) (v : EdgeValue) (b : ℕ) : Type 0 where
  pub packed : Packed g m
  pub graph : Graphed n (productions_in g m) ws ix k
  pub fits : value_fits n (productions_in g m) v ≡ true
  pub bucket : b ≡ bucket_number (productions_in g m) (edge_is v)
  pub low : b < bucket_limit

-- the ways through it
module _ {g : List ℕ} {m n : ℕ} {ws ix : List ℕ} {k : ℕ} {v : EdgeValue} {b : ℕ} (W : Sought g m n ws ix k v b) where
  -- an edge in another bucket is not equal
  other : (j : ℕ) → j < k → in_bucket (productions_in g m) ws b j ≡ false → is_same_edge (productions_in g m) (edge_is v) (edge_at ws j) ≡ false
  unfolding in_bucket edge_is edge_at edge_read
  other j h s =
      never (is_same_edge (productions_in g m) (edge_is v) (edge_at ws j)) (λ q.
      let here : value_fits n (productions_in g m) (edge_read ws j) ≡ true = fits_read n (productions_in g m) ws j ∙ W.graph.fits j h in
      let e = same_bucket (productions_in g m) (edge_is v) (edge_at ws j) (label_fits n (productions_in g m) v W.fits) (label_fits n (productions_in g m) (edge_read ws j) here) q in
      eqb-false (bucket_number (productions_in g m) (edge_at ws j)) b s (sym (W.bucket ∙ e)))

  pub find_first : {next : ℕ} → next ≡ get_or ix b 0 → Turn ws ix bucket_limit (in_bucket (productions_in g m) ws b) (is_same_edge (productions_in g m) (edge_is v)) k next
  find_first {next} ex =
      turn_first ws ix bucket_limit (in_bucket (productions_in g m) ws b) (is_same_edge (productions_in g m) (edge_is v)) k other next (rw ex (W.graph.index.bucketed b W.low))

  module _ {next : ℕ} (T : Turn ws ix bucket_limit (in_bucket (productions_in g m) ws b) (is_same_edge (productions_in g m) (edge_is v)) k next) where
    pub find_end : next ≡ 0 → false ≡ some? (is_same_edge (productions_in g m) (edge_is v)) (first_edges ws k)
    find_end e = turn_end ws ix bucket_limit (in_bucket (productions_in g m) ws b) (is_same_edge (productions_in g m) (edge_is v)) k other next T e

    module _ (ne : next ≡ 0 → ⊥) where
      one : next ≡ suc (next - 1)
      one = go (ℕ_discrete next 0)
        where
          go : Dec (next ≡ 0) → next ≡ suc (next - 1)
          go (yes z) = absurd (ne z)
          go (no z) = omega arith

      pub find-fits : edge_is_fit n (productions_in g m) ws (next - 1) ≡ true
      find-fits = W.graph.fits (next - 1) (omega (arith, one, T.below))

      pub find_low : next - 1 < edge_limit
      find_low = omega (arith, one, T.below, W.graph.few)

      pub find_less : {j : ℕ} → j ≡ get_or ix (bucket_limit + (next - 1)) 0 → j < next
      find_less q = omega (arith, one, turn_less ws ix bucket_limit (in_bucket (productions_in g m) ws b) (is_same_edge (productions_in g m) (edge_is v)) k other next (next - 1) T one)

      module _ {r : Bool} (p : r ≡ is_same_edge (productions_in g m) (edge_is v) (edge_at ws (next - 1))) where
        pub find-found : r ≡ true → true ≡ some? (is_same_edge (productions_in g m) (edge_is v)) (first_edges ws k)
        find-found h = turn_found ws ix bucket_limit (in_bucket (productions_in g m) ws b) (is_same_edge (productions_in g m) (edge_is v)) k other next (next - 1) T one (sym p ∙ h)

        pub find_again : r ≡ false → {j : ℕ} → j ≡ get_or ix (bucket_limit + (next - 1)) 0 → Turn ws ix bucket_limit (in_bucket (productions_in g m) ws b) (is_same_edge (productions_in g m) (edge_is v)) k j
        find_again h {j} q = turn_again ws ix bucket_limit (in_bucket (productions_in g m) ws b) (is_same_edge (productions_in g m) (edge_is v)) k other next (next - 1) T one j q (sym p ∙ h)
