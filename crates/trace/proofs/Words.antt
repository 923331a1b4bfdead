-- The words of a graph that was built are those of its edges.
use Rattle.std.proofs.Common.{◌≡◌, ℕ, zero, suc, ◌+◌, ◌*◌, ◌<◌, ◌≤◌, List, [], ◌∷◌, length, get_or, take, drop, sym, refl, ap, ◌∙◌, append-nil, add-one, arith, drop-cons, take-suc, take-add}
use Rattle.lr1_base.specs.repr.Sizes.{edge_room, edge_place}
use Rattle.lr1_base.specs.repr.Lists.{joined}
use Rattle.lr1_base.specs.repr.Meaning.{Production}
use Rattle.lr1_base.proofs.repr.Lists.{joined_nil, joined_cons, joined_append}
use Rattle.trace_graph.specs.Graph.{TraceEdge}
use Rattle.trace_graph.specs.Words.{edge_words, graph_words, edge_at, edges_in}
use Rattle.trace_graph.specs.Values.{first_edges, edge_read, node_read, value_words}
use Rattle.trace_graph.specs.Insert.{Graphed}
use Rattle.trace_graph.proofs.Words.{edge_read_lem, fits_read, own_value, value_words_lem, edge_value, edges_first, first-none, first_more}
use Rattle.trace_graph.proofs.Front.{edges_long, joined_long}
use Rattle.trace.specs.Built.{Built}

-- eight words of a list

eight : (ws : List ℕ) (m : ℕ) → m + 8 ≤ length ws
    → take 8 (drop m ws) ≡ get_or ws m 0 ∷ get_or ws (m + 1) 0 ∷ get_or ws (m + 2) 0 ∷ get_or ws (m + 3) 0 ∷ get_or ws (m + 4) 0 ∷ get_or ws (m + 5) 0 ∷ get_or ws (m + 6) 0 ∷ get_or ws (m + 7) 0 ∷ []
eight ws m h =
    ap (take 8) (one m m refl (omega arith) ∙ ap (λ (l : List ℕ). get_or ws m 0 ∷ l) (one (suc m) (m + 1) (omega arith) (omega arith)
    ∙ ap (λ (l : List ℕ). get_or ws (m + 1) 0 ∷ l) (one (suc (m + 1)) (m + 2) (omega arith) (omega arith)
    ∙ ap (λ (l : List ℕ). get_or ws (m + 2) 0 ∷ l) (one (suc (m + 2)) (m + 3) (omega arith) (omega arith)
    ∙ ap (λ (l : List ℕ). get_or ws (m + 3) 0 ∷ l) (one (suc (m + 3)) (m + 4) (omega arith) (omega arith)
    ∙ ap (λ (l : List ℕ). get_or ws (m + 4) 0 ∷ l) (one (suc (m + 4)) (m + 5) (omega arith) (omega arith)
    ∙ ap (λ (l : List ℕ). get_or ws (m + 5) 0 ∷ l) (one (suc (m + 5)) (m + 6) (omega arith) (omega arith)
    ∙ ap (λ (l : List ℕ). get_or ws (m + 6) 0 ∷ l) (one (suc (m + 6)) (m + 7) (omega arith) (omega arith)))))))))
  where
    one : (j k : ℕ) → j ≡ k → k < length ws → drop j ws ≡ get_or ws k 0 ∷ drop (suc k) ws
    one j k e l = ap (λ (x : ℕ). drop x ws) e ∙ drop-cons ws k 0 l

module _ {n : ℕ} {ps : List Production} {ws ix : List ℕ} {count : ℕ} (G : Graphed n ps ws ix count) where
  read-words : (k : ℕ) → k < count → take 8 (drop (edge_place k) ws) ≡ edge_words (edge_at ws k)
  unfolding value_words edge_read node_read
  read-words k h =
      let l = G.long in
      let f = G.few in
      let a : edge_place k + 3 + 1 ≡ edge_place k + 4 = omega arith in
      let b : edge_place k + 3 + 2 ≡ edge_place k + 5 = omega arith in
      let own : value_words (edge_read ws k) ≡ edge_words (edge_at ws k) =
      ap value_words (sym (own_value n ps (edge_read ws k) (fits_read n ps ws k ∙ G.fits k h)) ∙ ap edge_value (edge_read_lem ws k)) ∙ sym (value_words_lem (edge_at ws k)) in
      eight ws (edge_place k) (omega arith) ∙ rw (a, b) at own

  front : (k : ℕ) → k ≤ count → take (edge_place k) ws ≡ get_or ws 0 0 ∷ joined edge_words (first_edges ws k)
  front zero h =
      let l = G.long in
      take-suc ws 0 0 (omega arith) ∙ rw (first-none ws, joined_nil edge_words) refl
  front (suc k) h =
      let e : edge_place (suc k) ≡ edge_place k + 8 = omega arith in
      ap (λ (x : ℕ). take x ws) e ∙ take-add (edge_place k) 8 ws
      ∙ rw (front k (omega arith), read-words k (omega arith), first_more ws k, joined_append edge_words (first_edges ws k) (edge_at ws k ∷ []), joined_cons edge_words (edge_at ws k) [], joined_nil edge_words, append-nil (edge_words (edge_at ws k)))

same : {a b : ℕ} {es fs : List TraceEdge} → a ≡ b → es ≡ fs → ◌≡◌ {A = List ℕ} (a ∷ joined edge_words es) (b ∷ joined edge_words fs)
same c e = λ j. c j ∷ joined edge_words (e j)

-- the graph that the words hold
pub built : {n : ℕ} {ps : List Production} {ws ix : List ℕ} (es : List TraceEdge) → Graphed n ps ws ix (get_or ws 0 0) → edges_in ws ≡ es → Built es ws
unfolding graph_words
built {ws = ws} es G e =
    let c : get_or ws 0 0 ≡ length es = sym (edges_long ws) ∙ ap length e in
    record {
      count = c;
      few = rw (← c) G.few;
      words = ap (λ (k : ℕ). take (edge_place k) ws) (sym c) ∙ front G (get_or ws 0 0) (omega arith) ∙ same c (sym (edges_first ws) ∙ e);
    }

-- the words of a graph's edges
pub words_long : (es : List TraceEdge) → length (graph_words es) ≡ edge_place (length es)
unfolding graph_words
words_long es = ap suc (joined_long es) ∙ sym (add-one (length es * edge_room))
