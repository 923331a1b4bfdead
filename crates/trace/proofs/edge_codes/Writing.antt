-- The edges of the words, put into a graph one after the other.
use Rattle.std.proofs.Common.{◌≡◌, ℕ, suc, ◌+◌, ◌*◌, ◌<◌, ◌≤◌, List, [], ◌∷◌, ◌++◌, length, get_or, take, drop, set, sym, refl, ap, ◌∙◌, arith, length-drop, length-set, length-take-le, take-suc, drop-drop}
use lib.Seq.{take-length}
use Rattle.lr1_base.specs.repr.Lists.{joined}
use Rattle.lr1_base.specs.repr.Meaning.{Table}
use Rattle.lr1_base.proofs.repr.Tests.{All_at}
use Rattle.trace_graph.specs.Graph.{TraceEdge, no_edge}
use Rattle.trace_graph.specs.Words.{edge_words, graph_words}
use Rattle.trace_graph.specs.Values.{written, value_words}
use Rattle.trace_graph.specs.Insert.{with_one_more}
use Rattle.trace_graph.specs.declared.TraceEdge.{TraceEdge as EdgeValue}
use Rattle.trace_graph.proofs.Words.{written_long}
use Rattle.trace_graph.proofs.Front.{more-front}
use Rattle.trace.specs.Sound.{EdgeSound}
use Rattle.trace.specs.edge_codes.Carried.{Decodes, Carried}

-- the first k edges are written, over the words gr₀
pub record Writing (g ws gr₀ gr : List ℕ) (k : ℕ) : Type 0 where
  pub long : length gr ≡ length gr₀
  pub most : k ≤ get_or ws 0 0
  pub words : (n : ℕ) (T : Table) (es : List TraceEdge) → Carried g n ws T es → k ≤ length es → gr ≡ graph_words (take k es) ++ drop (k * 8) (drop 1 gr₀)

pub decodes : {g ws : List ℕ} {n : ℕ} {T : Table} {es : List TraceEdge} → Carried g n ws T es → (k : ℕ) → k < length es → Decodes g n T (get_or es k no_edge) (get_or ws (1 + k) 0)
decodes {T = T} {es = es} C k h = record {
  fits = C.fits;
  packed = C.packed;
  same = C.same;
  traced = All_at (EdgeSound T) es k no_edge C.traced h;
  is = C.codes k h;
}

-- there is an edge k, in range
module _ {g ws : List ℕ} (E : (n : ℕ) × ((T : Table) × ((es : List TraceEdge) × Carried g n ws T es))) {k : ℕ} (h : k < get_or ws 0 0) where
  more : k < length E.1.1.0
  more = let c = E.1.1.1.count in omega arith

  pub carried_few : k < 1024
  carried_few = let m = more in let f = E.1.1.1.few in omega arith

  pub carried_code : (c : ℕ) → c ≡ get_or ws (1 + k) 0 → (n : ℕ) × ((T : Table) × ((e : TraceEdge) × Decodes g n T e c))
  carried_code c e = (E.0, (E.1.0, (get_or E.1.1.0 k no_edge, rw e (decodes E.1.1.1 k more))))

-- the words behind the count
behind : (gr : List ℕ) → drop 1 (set gr 0 0) ≡ drop 1 gr
behind [] = refl
behind (x ∷ xs) = refl

none : (gr : List ℕ) → 1 ≤ length gr → set gr 0 0 ≡ 0 ∷ drop 1 (set gr 0 0)
none [] h = absurd (omega arith)
none (x ∷ xs) h = refl

pub writing_start : (g ws gr : List ℕ) → 8193 ≤ length gr → Writing g ws (set gr 0 0) (set gr 0 0) 0
unfolding graph_words joined
writing_start g ws gr h = record { long = refl; most = omega arith; words = λ n T es C l. none gr (omega arith) }

module _ (g ws gr₀ gr : List ℕ) (k : ℕ) (W : Writing g ws gr₀ gr k) (room : 8193 ≤ length gr₀) where
  pub writing_few : (E : (n : ℕ) × ((T : Table) × ((es : List TraceEdge) × Carried g n ws T es))) → k < get_or ws 0 0 → (k < 1024) × (8193 ≤ length gr)
  writing_few E h = let l = W.long in (carried_few E h, omega arith)

  module _ (few : k < 1024) (h : k < get_or ws 0 0) (c : ℕ) (ec : c ≡ get_or ws (1 + k) 0) (v : EdgeValue) (made : (n : ℕ) (T : Table) (e : TraceEdge) → Decodes g n T e c → value_words v ≡ edge_words e) (gr' : List ℕ) (put : gr' ≡ written gr k (value_words v)) where
    put_long : length (set gr' 0 (k + 1)) ≡ length gr₀
    put_long = length-set gr' 0 (k + 1) ∙ ap length put ∙ written_long gr k v ∙ W.long

    one_more : (n : ℕ) (T : Table) (es : List TraceEdge) → Carried g n ws T es → set gr' 0 (k + 1) ≡ with_one_more gr k (get_or es k no_edge)
    unfolding with_one_more
    one_more n T es C =
        let l : k < length es = let c = C.count in omega arith in
        ap (λ (l : List ℕ). set l 0 (k + 1)) (put ∙ ap (written gr k) (made n T (get_or es k no_edge) (rw ec (decodes C k l))))

    front : (es : List TraceEdge) → k < length es → gr ≡ graph_words (take k es) ++ drop (k * 8) (drop 1 gr₀) → with_one_more gr k (get_or es k no_edge) ≡ graph_words (take (k + 1) es) ++ drop ((k + 1) * 8) (drop 1 gr₀)
    front es l e =
        let q : length (take k es) ≡ k = length-take-le k es (omega arith) in
        let a = length-drop (k * 8) (drop 1 gr₀) in
        let b = length-drop 1 gr₀ in
        let m = more-front (take k es) (get_or es k no_edge) (drop (k * 8) (drop 1 gr₀)) (omega arith) in
        let s : k + 1 ≡ suc k = omega arith in
        let d : k * 8 + 8 ≡ (k + 1) * 8 = omega arith in
        ap (λ (l : List ℕ). with_one_more l k (get_or es k no_edge)) e
        ∙ ap (λ (j : ℕ). with_one_more (graph_words (take k es) ++ drop (k * 8) (drop 1 gr₀)) j (get_or es k no_edge)) (sym q)
        ∙ m
        ∙ ap (λ (l : List TraceEdge). graph_words l ++ drop 8 (drop (k * 8) (drop 1 gr₀))) (sym (ap (λ (j : ℕ). take j es) s ∙ take-suc es k no_edge l))
        ∙ ap (λ (l : List ℕ). graph_words (take (k + 1) es) ++ l) (drop-drop 8 (k * 8) (drop 1 gr₀) ∙ ap (λ (j : ℕ). drop j (drop 1 gr₀)) d)

    pub writing_more : Writing g ws gr₀ (set gr' 0 (k + 1)) (k + 1)
    writing_more = record {
      long = put_long;
      most = omega arith;
      words = λ n T es C l. one_more n T es C ∙ front es (omega arith) (W.words n T es C (omega arith));
    }

pub writing_done : (g ws gr₀ gr : List ℕ) (k : ℕ) → Writing g ws (set gr₀ 0 0) gr k → get_or ws 0 0 ≤ k → (n : ℕ) (T : Table) (es : List TraceEdge) → Carried g n ws T es → gr ≡ graph_words es ++ drop (length es * 8 + 1) gr₀
writing_done g ws gr₀ gr k W d n T es C =
    let c = C.count in
    let m = W.most in
    let q : k ≡ length es = omega arith in
    let s : 1 + length es * 8 ≡ length es * 8 + 1 = omega arith in
    W.words n T es C (omega arith)
    ∙ ap (λ (j : ℕ). graph_words (take j es) ++ drop (j * 8) (drop 1 (set gr₀ 0 0))) q
    ∙ ap (λ (l : List TraceEdge). graph_words l ++ drop (length es * 8) (drop 1 (set gr₀ 0 0))) (take-length es)
    ∙ ap (λ (l : List ℕ). graph_words es ++ l) (ap (drop (length es * 8)) (behind gr₀) ∙ drop-drop (length es * 8) 1 gr₀ ∙ ap (λ (j : ℕ). drop j gr₀) s)
