-- What an added edge does to a graph's words: counts, the words past the edges, and the words in front where they are those of a list of edges.
use Rattle.std.proofs.Common.{◌≡◌, ℕ, suc, ◌+◌, ◌*◌, ◌≤◌, List, [], ◌∷◌, ◌++◌, length, get_or, take, drop, sym, ap, ◌∙◌, arith, length-append, drop-drop, take_at, drop_at}
use lib.Seq.{sets, sets-eq}
use Rattle.lr1_base.specs.repr.Sizes.{edge_room, edge_place}
use Rattle.lr1_base.specs.repr.Lists.{joined}
use Rattle.lr1_base.specs.repr.Meaning.{Production}
use Rattle.lr1_base.proofs.repr.Lists.{joined_nil, joined_cons, joined_append}
use Rattle.trace_graph.specs.Graph.{TraceEdge, add}
use Rattle.trace_graph.specs.Words.{edge_words, graph_words, edges_in}
use Rattle.trace_graph.specs.Values.{written}
use Rattle.trace_graph.specs.Insert.{with_one_more, Overfull}
use Rattle.trace_graph.proofs.Words.{words_count, edge_value, value_words_lem, edges_first, first_long}
use Rattle.trace_graph.proofs.Inserts.{add_new}

-- how many edges

pub edges_long : (ws : List ℕ) → length (edges_in ws) ≡ get_or ws 0 0
edges_long ws = ap length (edges_first ws) ∙ first_long ws (get_or ws 0 0)

-- refusal 12: the edge would be one too many
pub overfull_long : (ps : List Production) (e : TraceEdge) (ws ix ws' ix' : List ℕ) → Overfull ps e ws ix ws' ix' → length (add ps e (edges_in ws)) ≡ 1025
overfull_long ps e ws ix ws' ix' F =
    let l = edges_long ws in
    let m = F.many in
    ap length (add_new ps e (edges_in ws) F.absent) ∙ length-append (edges_in ws) (e ∷ []) ∙ omega arith

-- the words of an edge, and of several

pub edge_words_lem : (e : TraceEdge) → length (edge_words e) ≡ 8
edge_words_lem e = ap length (value_words_lem e) ∙ words_count (edge_value e)

pub joined_long : (es : List TraceEdge) → length (joined edge_words es) ≡ length es * edge_room
joined_long [] = ap length (joined_nil edge_words)
joined_long (e ∷ es) =
    let a = edge_words_lem e in
    let b = joined_long es in
    ap length (joined_cons edge_words e es) ∙ length-append (edge_words e) (joined edge_words es) ∙ omega arith

-- a graph's words in front, with any words behind: an edge more takes the next eight
pub more-front : (es : List TraceEdge) (e : TraceEdge) (rest : List ℕ) → 8 ≤ length rest → with_one_more (graph_words es ++ rest) (length es) e ≡ graph_words (es ++ e ∷ []) ++ drop 8 rest
unfolding with_one_more written graph_words
more-front es e rest h = rw whole (ap {B = List ℕ} (λ (n : ℕ). n ∷ (joined edge_words (es ++ e ∷ []) ++ drop 8 rest)) count)
  where
    ws : List ℕ
    ws = joined edge_words es ++ rest

    at : length (joined edge_words es) ≡ length es * edge_room
    at = joined_long es

    count : length es + 1 ≡ length (es ++ e ∷ [])
    count = sym (length-append es (e ∷ []))

    last : joined edge_words (es ++ e ∷ []) ≡ joined edge_words es ++ edge_words e
    last =
        joined_append edge_words es (e ∷ [])
        ∙ ap (λ (l : List ℕ). joined edge_words es ++ l) (joined_cons edge_words e [] ∙ ap (λ (l : List ℕ). edge_words e ++ l) (joined_nil edge_words) ∙ mathlib.Core.List.append-nil (edge_words e))

    room : edge_place (length es) + length (edge_words e) ≤ suc (length ws)
    room = let a = edge_words_lem e in rw (length-append (joined edge_words es) rest) (omega (arith, at))

    start : take (edge_place (length es)) (length es ∷ ws) ≡ length es ∷ joined edge_words es
    start =
        let s : edge_place (length es) ≡ suc (length es * edge_room) = omega arith in
        rw s (ap (λ (l : List ℕ). length es ∷ l) (take_at (joined edge_words es) rest (length es * edge_room) at))

    behind : drop (edge_place (length es) + length (edge_words e)) (length es ∷ ws) ≡ drop 8 rest
    behind =
        let s : edge_place (length es) + length (edge_words e) ≡ suc (length es * edge_room + 8) = omega (arith, edge_words_lem e) in
        rw s (sym (drop-drop 8 (length es * edge_room) ws) ∙ ap (drop 8) (drop_at (joined edge_words es) rest (length es * edge_room) at))

    whole : sets (length es ∷ ws) (edge_place (length es)) (edge_words e) ≡ length es ∷ (joined edge_words (es ++ e ∷ []) ++ drop 8 rest)
    whole = sets-eq (edge_words e) (length es ∷ ws) (edge_place (length es)) room ∙ rw (start, behind, last)
