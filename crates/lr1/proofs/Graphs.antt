-- The ways through `add_edge` and the two traces, one law each; the words of a graph with an edge added are those of its edges in front of the old words.
use mathlib.Core.Path.{◌≡◌, refl, sym, ap, ◌∙◌}
use mathlib.Core.Bool.{Bool, true, false}
use mathlib.Core.List.{List, [], ◌∷◌, ◌++◌}
use Prim.Native.Nat.{ℕ, ◌+◌, ◌≤◌, ◌<◌}
use native.Mathlib.Omega.{arith}
use lib.ListN.{length, get_or, drop, take-append-drop, length-append, length-drop}
use lib.Seq.{drop-drop}
use lib.Dec.{leb}
use borrow.Author.Tests.{le-leb, lt-leb}
use Rattle.lr1_base.specs.repr.Reply.{answered, refused}
use Rattle.lr1_base.specs.repr.Sizes.{edge_limit, edge_place, graph_room}
use Rattle.lr1_base.specs.words.Lent.{in_front}
use Rattle.lr1_base.specs.repr.Lists.{some?}
use Rattle.lr1_base.specs.repr.Meaning.{Table, Production, Item}
use Rattle.table.specs.Checked.{Checked, Accepted, Refused as NotAccepted}
use Rattle.table.specs.Decoded.{meaning}
use Rattle.trace_graph.specs.declared.Node.{Node as NodeValue}
use Rattle.trace_graph.specs.declared.TraceEdge.{TraceEdge as EdgeValue}
use Rattle.trace_graph.specs.Graph.{TraceEdge, is_same_edge, add}
use Rattle.trace_graph.specs.Words.{graph_words, edges_in}
use Rattle.trace_graph.specs.Fits.{graph_fits}
use Rattle.trace_graph.specs.Values.{edge_is, value_fits}
use Rattle.trace_graph.specs.Insert.{Graphed, with_one_more, add_words, Added, Overfull}
use Rattle.trace_graph.proofs.Inserts.{add_there, add_new, words_there, words_new}
use Rattle.trace_graph.proofs.Front.{edges_long, overfull_long, more-front}
use Rattle.trace.specs.Outcome.{Outcome, outcome, traced_in, trace_by}
use Rattle.trace.proofs.Words.{built, words_long}
use Rattle.lr1.specs.Edges.{EdgeOutcome, edge_outcome, added_outcome, added_edge_in, add_edge_of}

-- ---- the traces
module _ (edges : Table → ℕ → Item → List TraceEdge) (t : List ℕ) (s : ℕ) (i : Item) (graph scratch : List ℕ) where
  pub trace_refused : (c : Checked) (n r : ℕ) → c ≡ NotAccepted n r → outcome (refused n r) graph scratch ≡ trace_by edges t s i graph scratch c
  unfolding trace_by
  trace_refused c n r e = rw e

  pub trace_accepted : (c : Checked) (o : Outcome) → c ≡ Accepted → o ≡ traced_in edges s i graph scratch (meaning t) → o ≡ trace_by edges t s i graph scratch c
  unfolding trace_by
  trace_accepted c o e h = rw e h

-- ---- a graph's words, and an edge more

-- the words of a graph that passed the check are those of its edges, and what stands behind them
pub own_front : {n : ℕ} {ps : List Production} {ws ix : List ℕ} → Graphed n ps ws ix (get_or ws 0 0) → ws ≡ in_front (graph_words (edges_in ws)) ws
unfolding in_front
own_front {ws = ws} G =
    let B = built (edges_in ws) G refl in
    sym (take-append-drop (edge_place (length (edges_in ws))) ws)
    ∙ ap (λ (l : List ℕ). l ++ drop (edge_place (length (edges_in ws))) ws) B.words
    ∙ ap (λ (k : ℕ). graph_words (edges_in ws) ++ drop k ws) (sym (words_long (edges_in ws)))

module _ {n : ℕ} (ps : List Production) (e : TraceEdge) (ws : List ℕ) {ix : List ℕ} (G : Graphed n ps ws ix (get_or ws 0 0)) where
  there : some? (is_same_edge ps e) (edges_in ws) ≡ true → add_words ps e ws ≡ in_front (graph_words (add ps e (edges_in ws))) ws
  there h = words_there ps e ws h ∙ own_front G ∙ ap (λ (es : List TraceEdge). in_front (graph_words es) ws) (sym (add_there ps e (edges_in ws) h))

  module _ (few : length (edges_in ws ++ e ∷ []) ≤ edge_limit) where
    long : length (edges_in ws ++ e ∷ []) ≡ length (edges_in ws) + 1
    long = length-append (edges_in ws) (e ∷ [])

    abbrev rest : List ℕ
    rest = drop (length (graph_words (edges_in ws))) ws

    room : 8 ≤ length rest
    room =
        let a = words_long (edges_in ws) in
        let b = long in
        let l = G.long in
        rw (length-drop (length (graph_words (edges_in ws))) ws) (omega arith)

    behind : drop 8 rest ≡ drop (length (graph_words (edges_in ws ++ e ∷ []))) ws
    behind =
        let a = words_long (edges_in ws) in
        let b = words_long (edges_in ws ++ e ∷ []) in
        let d = long in
        let q : length (graph_words (edges_in ws)) + 8 ≡ length (graph_words (edges_in ws ++ e ∷ [])) = omega arith in
        drop-drop 8 (length (graph_words (edges_in ws))) ws ∙ ap (λ (k : ℕ). drop k ws) q

    one_more : with_one_more ws (get_or ws 0 0) e ≡ in_front (graph_words (edges_in ws ++ e ∷ [])) ws
    unfolding in_front
    one_more =
        ap (λ (l : List ℕ). with_one_more l (get_or ws 0 0) e) (own_front G)
        ∙ ap (λ (k : ℕ). with_one_more (graph_words (edges_in ws) ++ rest) k e) (sym (edges_long ws))
        ∙ more-front (edges_in ws) e rest room
        ∙ ap (λ (l : List ℕ). graph_words (edges_in ws ++ e ∷ []) ++ l) behind

  -- the count and the eight words at the edge's place, or nothing, is what the list with the edge added changes
  pub add_words_lem : length (add ps e (edges_in ws)) ≤ edge_limit → add_words ps e ws ≡ in_front (graph_words (add ps e (edges_in ws))) ws
  add_words_lem few = go (some? (is_same_edge ps e) (edges_in ws)) refl
    where
      go : (b : Bool) → some? (is_same_edge ps e) (edges_in ws) ≡ b → add_words ps e ws ≡ in_front (graph_words (add ps e (edges_in ws))) ws
      go true h = there h
      go false h =
          let a = add_new ps e (edges_in ws) h in
          words_new ps e ws h ∙ one_more (rw a at few) ∙ ap (λ (es : List TraceEdge). in_front (graph_words es) ws) (sym a)

-- ---- `add_edge`

unfoldable ways : Bool → Bool → Bool → EdgeOutcome → EdgeOutcome → EdgeOutcome → EdgeOutcome
ways a b c x y z = elim a [ false ↦ x | true ↦ elim b [ false ↦ y | true ↦ elim c [ false ↦ x | true ↦ z ] ] ]

ways_edge : (b c : Bool) (x y z : EdgeOutcome) → ways false b c x y z ≡ x
unfolding ways
ways_edge b c x y z = refl

ways_short : (c : Bool) (x y z : EdgeOutcome) → ways true false c x y z ≡ y
unfolding ways
ways_short c x y z = refl

ways_graph : (x y z : EdgeOutcome) → ways true true false x y z ≡ x
unfolding ways
ways_graph x y z = refl

ways_all : (x y z : EdgeOutcome) → ways true true true x y z ≡ z
unfolding ways
ways_all x y z = refl

added_few : (graph : List ℕ) (es : List TraceEdge) → length es ≤ edge_limit → added_outcome graph es ≡ edge_outcome (answered (length es)) (in_front (graph_words es) graph)
unfolding added_outcome
added_few graph es h = rw (le-leb (length es) edge_limit h, added_outcome)

added-over : (graph : List ℕ) (es : List TraceEdge) → edge_limit < length es → added_outcome graph es ≡ edge_outcome (refused 12 0) graph
unfolding added_outcome
added-over graph es h = rw (lt-leb (length es) edge_limit h, added_outcome)

-- what was read of the table: n nonterminals, the productions ps; b: whether the edge is in range
module _ (v : EdgeValue) (graph : List ℕ) (T : Table) (n : ℕ) (ps : List Production) (b : Bool) (en : n ≡ length T.nonterminals) (read : ps ≡ T.productions) (eb : b ≡ value_fits n ps v) where
  edge_told : b ≡ value_fits (length T.nonterminals) T.productions v
  edge_told = eb ∙ (λ j. value_fits (en j) (read j) v)

  add_ways : added_edge_in v graph T ≡ ways (value_fits (length T.nonterminals) T.productions v) (leb graph_room (length graph)) (graph_fits (length T.nonterminals) T.productions graph) (edge_outcome (refused 9 0) graph) (edge_outcome (refused 11 0) graph) (added_outcome graph (add T.productions (edge_is v) (edges_in graph)))
  unfolding added_edge_in ways
  add_ways = refl

  pub edge_out : b ≡ false → edge_outcome (refused 9 0) graph ≡ added_edge_in v graph T
  edge_out f = sym (add_ways ∙ rw (sym edge_told ∙ f) (ways_edge _ _ _ _ _))

  module _ (f : b ≡ true) where
    pub graph_short : length graph < graph_room → edge_outcome (refused 11 0) graph ≡ added_edge_in v graph T
    graph_short l = sym (add_ways ∙ rw (sym edge_told ∙ f, lt-leb graph_room (length graph) l) (ways_short _ _ _ _))

    module _ (l : graph_room ≤ length graph) (r : Bool) (er : r ≡ graph_fits n ps graph) where
      graph_told : r ≡ graph_fits (length T.nonterminals) T.productions graph
      graph_told = er ∙ (λ j. graph_fits (en j) (read j) graph)

      pub graph_out : r ≡ false → edge_outcome (refused 9 0) graph ≡ added_edge_in v graph T
      graph_out q = sym (add_ways ∙ rw (sym edge_told ∙ f, le-leb graph_room (length graph) l, sym graph_told ∙ q) (ways_graph _ _ _))

      module _ (q : r ≡ true) where
        all_fit : added_outcome graph (add ps (edge_is v) (edges_in graph)) ≡ added_edge_in v graph T
        all_fit =
            ap (λ (qs : List Production). added_outcome graph (add qs (edge_is v) (edges_in graph))) read
            ∙ sym (add_ways ∙ rw (sym edge_told ∙ f, le-leb graph_room (length graph) l, sym graph_told ∙ q) (ways_all _ _ _))

        pub edge_added : {graph' ix ix' : List ℕ} (count : ℕ) → Graphed n ps graph ix (get_or graph 0 0) → Added n ps (edge_is v) graph graph' ix' → count ≡ get_or graph' 0 0
            → edge_outcome (answered count) graph' ≡ added_edge_in v graph T
        edge_added {graph' = graph'} count G A ec = make (ec ∙ counted) (A.words ∙ add_words_lem ps (edge_is v) graph G few) ∙ sym (added_few graph _ few) ∙ all_fit
          where
            counted : get_or graph' 0 0 ≡ length (add ps (edge_is v) (edges_in graph))
            counted = sym (edges_long graph') ∙ ap length A.edges

            few : length (add ps (edge_is v) (edges_in graph)) ≤ edge_limit
            few = rw counted at A.good.few

            make : {a b : ℕ} {x y : List ℕ} → a ≡ b → x ≡ y → edge_outcome (answered a) x ≡ edge_outcome (answered b) y
            make e h = λ j. edge_outcome (answered (e j)) (h j)

        pub edge_over : {graph' ix ix' : List ℕ} → Overfull ps (edge_is v) graph ix graph' ix' → edge_outcome (refused 12 0) graph' ≡ added_edge_in v graph T
        edge_over {graph'} {ix} {ix'} F =
            let h = overfull_long ps (edge_is v) graph ix graph' ix' F in
            ap (edge_outcome (refused 12 0)) F.words ∙ sym (added-over graph _ (omega arith)) ∙ all_fit

-- an edge between equal nodes
pub edge_between : (t : List ℕ) {a a' b b' : NodeValue} (p i : ℕ) (graph : List ℕ) → a ≡ a' → b ≡ b'
    → add_edge_of t (record { source = a; target = b; label = record { production = p; index = i } }) graph ≡ add_edge_of t (record { source = a'; target = b'; label = record { production = p; index = i } }) graph
edge_between t p i graph e f = λ j. add_edge_of t (record { source = e j; target = f j; label = record { production = p; index = i } }) graph
