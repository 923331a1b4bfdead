-- The ways through `insert`: a graph with its index, and an edge more.
use Rattle.std.proofs.Common.{◌≡◌, ℕ, ◌+◌, ◌<◌, ◌≤◌, Bool, true, false, List, [], ◌∷◌, ◌++◌, length, get_or, set, sym, refl, ap, ◌∙◌, add-one, arith}
use native.Mathlib.Decide.{ℕ_discrete}
use Rattle.lr1_base.specs.repr.Sizes.{edge_limit, edge_place}
use Rattle.lr1_base.specs.repr.Lists.{some?}
use Rattle.lr1_base.specs.repr.Meaning.{Production}
use Rattle.lr1_base.specs.repr.Packed.{Packed, productions_in}
use Rattle.trace_graph.specs.declared.TraceEdge.{TraceEdge as EdgeValue}
use Rattle.trace_graph.specs.Graph.{TraceEdge, is_same_edge, add}
use Rattle.trace_graph.specs.Words.{edge_at, edges_in}
use Rattle.trace_graph.specs.Fits.{edge_is_fit}
use Rattle.trace_graph.specs.Index.{bucket_number, in_bucket, bucket_limit}
use Rattle.trace_graph.specs.Values.{edge_is, value_fits, SmallEdge, edge_read, value_words, written, first_edges}
use Rattle.lr1_base.specs.hash_index.Chains.{chained}
use Rattle.trace_graph.specs.Insert.{Graphed, with_one_more, add_words, Added, Overfull}
use Rattle.trace_graph.proofs.Words.{fits_read, edge_kept, fits_kept, edge_value, own_value, more_is, more_long, more_count, more-read, more_edge, more-other, edges_first, edges_more}
use Rattle.trace_graph.proofs.Fits.{value_small}
use Rattle.lr1_base.proofs.hash_index.Chains.{newest-kept}
use Rattle.trace_graph.proofs.Index.{bucket_kept, index_linked}

-- a test's two ways in `add` and `add_words`
module _ (ps : List Production) (e : TraceEdge) where
  pub add_there : (es : List TraceEdge) → some? (is_same_edge ps e) es ≡ true → add ps e es ≡ es
  unfolding add
  add_there es h = rw (h, add)

  pub add_new : (es : List TraceEdge) → some? (is_same_edge ps e) es ≡ false → add ps e es ≡ es ++ e ∷ []
  unfolding add
  add_new es h = rw (h, add)

  pub words_there : (ws : List ℕ) → some? (is_same_edge ps e) (edges_in ws) ≡ true → add_words ps e ws ≡ ws
  unfolding add_words
  words_there ws h = rw (h, add_words)

  pub words_new : (ws : List ℕ) → some? (is_same_edge ps e) (edges_in ws) ≡ false → add_words ps e ws ≡ with_one_more ws (get_or ws 0 0) e
  unfolding add_words
  words_new ws h = rw (h, add_words)

module _ (n : ℕ) (ps : List Production) (ws ix : List ℕ) (k : ℕ) (G : Graphed n ps ws ix k) where
  -- other words with the same first k edges
  pub graphed_words : (ws' : List ℕ) → length ws' ≡ length ws → ((j : ℕ) → j < k → edge_read ws' j ≡ edge_read ws j) → Graphed n ps ws' ix k
  graphed_words ws' l h = record {
    nonterminals = G.nonterminals;
    long = rw l G.long;
    few = G.few;
    fits = λ j m. fits_kept ws ws' j (h j m) n ps ∙ G.fits j m;
    index = record {
      long = G.index.long;
      bucketed = λ b r. rw (newest-kept (in_bucket ps ws b) (in_bucket ps ws' b) k (λ j m. bucket_kept ps ws ws' b j (edge_kept ws ws' j (h j m)))) (G.index.bucketed b r);
    };
  }

  -- edge k linked
  pub graphed_linked : k < edge_limit → edge_is_fit n ps ws k ≡ true → (bucket : ℕ) → bucket ≡ bucket_number ps (edge_at ws k) → bucket < bucket_limit → Graphed n ps ws (chained ix bucket_limit bucket k) (k + 1)
  graphed_linked l h bucket eb hb = record {
    nonterminals = G.nonterminals;
    long = G.long;
    few = omega arith;
    fits = λ j m. go j m (ℕ_discrete j k);
    index = rw (add-one k) (index_linked ps ws ix k bucket l G.index eb hb);
  }
    where
      go : (j : ℕ) → j < k + 1 → Dec (j ≡ k) → edge_is_fit n ps ws j ≡ true
      go j m (yes q) = rw q h
      go j m (no ne) = G.fits j (less (native.Mathlib.Decide.dec_lt j k))
        where
          less : Dec (j < k) → j < k
          less (yes q) = q
          less (no q) = absurd (ne (omega arith))

pub graphed_count : (n : ℕ) (ps : List Production) (ws ix : List ℕ) (k j : ℕ) → k ≡ j → Graphed n ps ws ix j → Graphed n ps ws ix k
graphed_count n ps ws ix k j e G = rw e G

-- what `insert` has once it has looked for the edge: the count k, and whether an equal edge is there
pub record Adding (g : List ℕ) (m n : ℕ) (ws ix : List ℕ) (v : EdgeValue) (k : ℕ) (r : Bool) : Type 0 where
  pub packed : Packed g m
  pub graph : Graphed n (productions_in g m) ws ix (get_or ws 0 0)
  pub fits : value_fits n (productions_in g m) v ≡ true
  pub count : k ≡ get_or ws 0 0
  pub found : r ≡ some? (is_same_edge (productions_in g m) (edge_is v)) (first_edges ws k)

-- the ways through it
module _ {g : List ℕ} {m n : ℕ} {ws ix : List ℕ} {v : EdgeValue} {k : ℕ} {r : Bool} (A : Adding g m n ws ix v k r) where
  known : r ≡ some? (is_same_edge (productions_in g m) (edge_is v)) (edges_in ws)
  known = rw (edges_first ws) (rw A.count at A.found)

  pub insert_small : SmallEdge v
  insert_small = (value_small g m A.packed n A.graph.nonterminals v A.fits).0

  pub insert_there : r ≡ true → Added n (productions_in g m) (edge_is v) ws ws ix
  insert_there h =
      let s = sym known ∙ h in
      record {
        edges = sym (add_there (productions_in g m) (edge_is v) (edges_in ws) s);
        words = sym (words_there (productions_in g m) (edge_is v) ws s);
        good = A.graph;
      }

  pub insert-full : r ≡ false → k ≡ edge_limit → Overfull (productions_in g m) (edge_is v) ws ix ws ix
  insert-full h e = record { words = refl; links = refl; absent = sym known ∙ h; many = sym A.count ∙ e }

  module _ (h : r ≡ false) (l : k ≡ edge_limit → ⊥) where
    pub insert_low : k < edge_limit
    insert_low = go (native.Mathlib.Decide.dec_lt k edge_limit)
      where
        go : Dec (k < edge_limit) → k < edge_limit
        go (yes q) = q
        go (no q) = absurd (l (omega (arith, A.graph.few)))

    pub insert-more : {ws' ix' : List ℕ} {bucket : ℕ} → ws' ≡ set (written ws k (value_words v)) 0 (k + 1)
        → (bucket ≡ bucket_number (productions_in g m) (edge_is v)) × (bucket < bucket_limit) → ix' ≡ chained ix bucket_limit bucket k
        → Added n (productions_in g m) (edge_is v) ws ws' ix'
    insert-more {ws'} {ix'} {bucket} ew eb ex = record {
      edges = ap edges_in words ∙ edges_more ws (edge_is v) room ∙ sym (add_new (productions_in g m) (edge_is v) (edges_in ws) s);
      words = words ∙ sym (words_new (productions_in g m) (edge_is v) ws s);
      good = rw (words, ex, A.count, more_count ws (get_or ws 0 0) (edge_is v) room) after;
    }
      where
        low : get_or ws 0 0 < edge_limit
        low = rw A.count at insert_low

        room : edge_place (get_or ws 0 0 + 1) ≤ length ws
        room = omega (arith, low, A.graph.long)

        s : some? (is_same_edge (productions_in g m) (edge_is v)) (edges_in ws) ≡ false
        s = sym known ∙ h

        own : edge_value (edge_is v) ≡ v
        own = own_value n (productions_in g m) v A.fits

        words : ws' ≡ with_one_more ws (get_or ws 0 0) (edge_is v)
        words = ew ∙ rw A.count (sym (more_is ws (get_or ws 0 0) (edge_is v) room ∙ rw own))

        fits : edge_is_fit n (productions_in g m) (with_one_more ws (get_or ws 0 0) (edge_is v)) (get_or ws 0 0) ≡ true
        fits =
            sym (fits_read n (productions_in g m) (with_one_more ws (get_or ws 0 0) (edge_is v)) (get_or ws 0 0))
            ∙ ap (value_fits n (productions_in g m)) (more-read ws (get_or ws 0 0) (edge_is v) room ∙ own)
            ∙ A.fits

        after : Graphed n (productions_in g m) (with_one_more ws (get_or ws 0 0) (edge_is v)) (chained ix bucket_limit bucket (get_or ws 0 0)) (get_or ws 0 0 + 1)
        after =
            graphed_linked n (productions_in g m) (with_one_more ws (get_or ws 0 0) (edge_is v)) ix (get_or ws 0 0)
            (graphed_words n (productions_in g m) ws ix (get_or ws 0 0) A.graph (with_one_more ws (get_or ws 0 0) (edge_is v)) (more_long ws (get_or ws 0 0) (edge_is v) room) (λ j l. more-other ws (get_or ws 0 0) (edge_is v) room j (λ q. omega arith)))
            low fits bucket (eb.0 ∙ ap (bucket_number (productions_in g m)) (sym (more_edge ws (get_or ws 0 0) (edge_is v) room))) eb.1
