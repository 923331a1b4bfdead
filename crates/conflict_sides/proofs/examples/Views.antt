-- A view and the labels of a trace from its edges' words, edge by edge (`view_codes`).
use Rattle.std.proofs.Common.{◌≡◌, ℕ, ◌+◌, ◌*◌, ◌<◌, ◌≤◌, eqb, List, length, get_or, drop, set, replicate, sym, refl, ap, ◌∙◌, arith, length-drop, length-set, get_or-drop, get_or-set_other, get_or-set_same, eqb-true}
use borrow.Author.Tests.{eqb-false}
use Rattle.lr1_base.specs.repr.Sizes.{nonterminal_limit, edge_limit, production_room}
use Rattle.lr1_base.specs.repr.Packed.{Packed}
use Rattle.lr1_base.specs.repr.Meaning.{Item, Production, no_production, Table}
use Rattle.lr1_base.proofs.repr.Lists.{cases}
use Rattle.trace_graph.specs.declared.TraceEdge.{TraceEdge as EdgeValue}
use Rattle.trace_graph.specs.Graph.{Node, at_nonterminal, at_item, TraceEdge, no_edge}
use Rattle.trace_graph.specs.Words.{edge_words}
use Rattle.trace_graph.specs.Values.{node_is, edge_is, value_words}
use Rattle.trace_graph.specs.Index.{InRange}
use Rattle.trace_graph.proofs.Words.{edge_value, value_is, value_words_lem}
use Rattle.trace.specs.Sound as sound
use Rattle.trace.specs.Traced.{owner_of}
use Rattle.trace.proofs.Steps.{packed_owner}
use Rattle.trace.proofs.Traced.{fits-item}
use Rattle.enumerator.specs.example.Labels.{LabelFits}
use Rattle.enumerator.specs.trials.Trials.{ends_of}
use Rattle.enumerator.specs.trials.Lister.{owner_of_node, label_at}
use Rattle.enumerator.proofs.trials.Stepping.{value_nonterminal}
use Rattle.enumerator.specs.graph_view.View.{latest_room, slot_of, source_of, Viewed, View, label_in, Labelled}
use Rattle.enumerator.proofs.graph_view.Made.{viewed_first, viewed_more}
use Rattle.trace.specs.edge_codes.Codes.{item_in}
use Rattle.trace.specs.edge_codes.Carried.{Decodes, Carried}
use Rattle.trace.proofs.edge_codes.Decoded.{label_is, packed_fewer}
use Rattle.trace.proofs.edge_codes.Writing.{decodes}
use Rattle.lr1_base.proofs.repr.Packed.{productions_long}

-- the value of an edge's words is the edge
value_same : (v u : EdgeValue) → value_words v ≡ value_words u → v ≡ u
unfolding value_words
value_same v u q =
    let a : v.source.kind ≡ u.source.kind = cc in
    let b : v.source.number ≡ u.source.number = cc in
    let c : v.source.index ≡ u.source.index = cc in
    let d : v.target.kind ≡ u.target.kind = cc in
    let e : v.target.number ≡ u.target.number = cc in
    let f : v.target.index ≡ u.target.index = cc in
    let p : v.label.production ≡ u.label.production = cc in
    let i : v.label.index ≡ u.label.index = cc in
    λ j. record { source = record { kind = a j; number = b j; index = c j }; target = record { kind = d j; number = e j; index = f j }; label = record { production = p j; index = i j } }

value_edge : (v : EdgeValue) (e : TraceEdge) → value_words v ≡ edge_words e → edge_is v ≡ e
value_edge v e q = ap edge_is (value_same v (edge_value e) (q ∙ value_words_lem e)) ∙ value_is e

-- the nonterminal of a node, as tracing and as listing says it
owner_both : (T : Table) (v : Node) → owner_of_node T.productions v ≡ sound.owner_of_node T v
unfolding owner_of_node sound.owner_of_node owner_of
owner_both T (at_nonterminal n) = refl
owner_both T (at_item i) = refl

module _ {g : List ℕ} {n : ℕ} {T : Table} {e : TraceEdge} {c : ℕ} (D : Decodes g n T e c) where
  node_small : (v : Node) → InRange (length T.nonterminals) T.productions v → (m : ℕ) → v ≡ at_nonterminal m → m < nonterminal_limit
  unfolding InRange
  node_small v r m q = let l : m < length T.nonterminals = rw q at r in let f = D.fits.few_nonterminals in omega arith

  pub edge_inside : e.label.production < n
  edge_inside =
      let l = (fits-item T e.label D.traced.label).production in
      let m = ap length D.same in
      let z = productions_long g n in
      omega arith

  owner_is : owner_of_node T.productions e.source ≡ get_or g (e.label.production * production_room) 0
  unfolding owner_of
  owner_is =
      owner_both T e.source ∙ D.traced.owner
      ∙ ap (λ (ps : List Production). (get_or ps e.label.production no_production).nonterminal) (sym D.same)
      ∙ packed_owner g n e.label.production edge_inside

  label_fits : (es : List TraceEdge) (k : ℕ) → get_or es k no_edge ≡ e → LabelFits T.productions (label_at T.productions es k)
  unfolding label_at
  label_fits es k q =
      let l = fits-item T e.label D.traced.label in
      rw q (record { nonterminal = let o = owner_is in let s = D.packed.owner e.label.production edge_inside in omega arith; production = l.production; index = l.index })

  -- the edge that is read
  module _ (v : EdgeValue) (w : value_words v ≡ edge_words e) where
    source_is : node_is v.source ≡ e.source
    unfolding edge_is
    source_is = ap (λ (f : TraceEdge). f.source) (value_edge v e w)

    target_is : node_is v.target ≡ e.target
    unfolding edge_is
    target_is = ap (λ (f : TraceEdge). f.target) (value_edge v e w)

    production_is : v.label.production ≡ e.label.production
    unfolding edge_is
    production_is = ap (λ (f : TraceEdge). f.label.production) (value_edge v e w)

    source_small : v.source.kind ≡ 0 → v.source.number < nonterminal_limit
    source_small z = node_small e.source D.traced.source v.source.number (sym source_is ∙ value_nonterminal v.source z)

    target_small : v.target.kind ≡ 0 → v.target.number < nonterminal_limit
    target_small z = node_small e.target D.traced.target v.target.number (sym target_is ∙ value_nonterminal v.target z)

    owner_place : v.label.production < n
    owner_place = let i = edge_inside in let p = production_is in omega arith

    packed_own : Packed g (v.label.production + 1)
    packed_own = let i = owner_place in packed_fewer g n (v.label.production + 1) (omega arith) D.packed

    owner_low : (x : ℕ) → x ≡ get_or g (v.label.production * production_room) 0 → x < nonterminal_limit
    owner_low x q = let s = D.packed.owner e.label.production edge_inside in rw (q, production_is) s

-- the view and the owners of the first k edges
pub record Making (g ws : List ℕ) (start : Item) (owners sources older latest : List ℕ) (k : ℕ) : Type 0 where
  pub most : k ≤ get_or ws 0 0
  pub by_owner : length owners ≡ edge_limit
  pub viewed : (n : ℕ) (T : Table) (es : List TraceEdge) → Carried g n ws T es → Viewed (ends_of es) start sources older latest k
  pub owned : (n : ℕ) (T : Table) (es : List TraceEdge) → Carried g n ws T es → (j : ℕ) → j < k → get_or owners j 0 ≡ owner_of_node T.productions (get_or es j no_edge).source

pub making_first : {g ws : List ℕ} {start : Item} {owners sources older latest : List ℕ} → length owners ≡ edge_limit
    → sources ≡ replicate edge_limit 0 → older ≡ replicate edge_limit 0 → latest ≡ replicate latest_room 0 → Making g ws start owners sources older latest 0
making_first o s l t = record {
  most = omega arith;
  by_owner = o;
  viewed = λ n T es C. viewed_first s l t;
  owned = λ n T es C j h. absurd (omega arith);
}

-- one edge more
module _ {g ws : List ℕ} {k : ℕ} (h : k < get_or ws 0 0) {c : ℕ} (ec : c ≡ get_or ws (1 + k) 0) (v : EdgeValue) (made : (n : ℕ) (T : Table) (e : TraceEdge) → Decodes g n T e c → value_words v ≡ edge_words e) where
  module _ {n : ℕ} {T : Table} {es : List TraceEdge} (C : Carried g n ws T es) where
    decoded : Decodes g n T (get_or es k no_edge) c
    decoded = let m = C.count in rw ec (decodes C k (omega arith))

    words_is : value_words v ≡ edge_words (get_or es k no_edge)
    words_is = made n T (get_or es k no_edge) decoded

  module _ (E : (n : ℕ) × ((T : Table) × ((es : List TraceEdge) × Carried g n ws T es))) where
    pub making_source : v.source.kind ≡ 0 → v.source.number < nonterminal_limit
    making_source = source_small (decoded E.1.1.1) v (words_is E.1.1.1)

    pub making_target : v.target.kind ≡ 0 → v.target.number < nonterminal_limit
    making_target = target_small (decoded E.1.1.1) v (words_is E.1.1.1)

    pub making_place : v.label.production < E.0
    making_place = owner_place (decoded E.1.1.1) v (words_is E.1.1.1)

    pub making_packed : Packed g (v.label.production + 1)
    making_packed = packed_own (decoded E.1.1.1) v (words_is E.1.1.1)

    pub making_low : (x : ℕ) → x ≡ get_or g (v.label.production * production_room) 0 → x < nonterminal_limit
    making_low = owner_low (decoded E.1.1.1) v (words_is E.1.1.1)

  pub making_more : {start : Item} {owners sources older latest owners' sources' older' latest' : List ℕ} {a b x : ℕ} → Making g ws start owners sources older latest k → k < edge_limit
      → a ≡ source_of (node_is v.source) → a ≤ nonterminal_limit → b ≡ slot_of start (node_is v.target) → b < latest_room
      → sources' ≡ set sources k a → older' ≡ set older k (get_or latest b 0) → latest' ≡ set latest b (k + 1) → owners' ≡ set owners k x → x ≡ get_or g (v.label.production * production_room) 0
      → Making g ws start owners' sources' older' latest' (k + 1)
  making_more {start} {owners} {sources} {older} {latest} {owners'} {sources'} {older'} {latest'} {a} {b} {x} M low ea la eb lb es' eo el ew ex = rw ew (record {
    most = omega arith;
    by_owner = length-set owners k x ∙ M.by_owner;
    viewed = λ n T es C. rw (es', eo, el)
        (viewed_more (M.viewed n T es C) low (λ m q. node_small (decoded C) (get_or es k no_edge).target (decoded C).traced.target m q)
        a (ea ∙ ap source_of (source_is (decoded C) v (words_is C))) la b (eb ∙ ap (slot_of start) (target_is (decoded C) v (words_is C))) lb);
    owned = λ n T es C j l. cases (eqb j k)
        (λ q. let z = eqb-true j k q in
        ap (λ (i : ℕ). get_or (set owners k x) i 0) z ∙ get_or-set_same owners k x 0 (omega (arith, M.by_owner)) ∙ ex
        ∙ ap (λ (p : ℕ). get_or g (p * production_room) 0) (production_is (decoded C) v (words_is C)) ∙ sym (owner_is (decoded C))
        ∙ ap (λ (i : ℕ). owner_of_node T.productions (get_or es i no_edge).source) (sym z))
        (λ q. let ne = eqb-false j k q in get_or-set_other owners k j x 0 ne ∙ M.owned n T es C j (less j l ne));
  })
    where
      less : (j : ℕ) → j < k + 1 → (j ≡ k → ⊥) → j < k
      less j l ne = omega arith

-- the label by owner and word
label_word : (ps : List Production) (es : List TraceEdge) (k o c : ℕ) → o ≡ owner_of_node ps (get_or es k no_edge).source → (get_or es k no_edge).label ≡ item_in c → label_in o c ≡ label_at ps es k
unfolding label_in label_at item_in
label_word ps es k o c eo el = rw (el, eo)

pub making_done : {g ws : List ℕ} {start : Item} {owners sources older latest : List ℕ} {k : ℕ} → Making g ws start owners sources older latest k → get_or ws 0 0 ≤ k
    → (n : ℕ) (T : Table) (es : List TraceEdge) → Carried g n ws T es → View es start sources older latest × Labelled T.productions es owners (drop 1 ws)
making_done {g} {ws} {start} {owners} {sources} {older} {latest} {k} M d n T es C =
    let m = M.most in
    let c = C.count in
    let q : k ≡ length es = omega arith in (
      record {
        few = C.few;
        small = λ e m h z. node_small (decodes C e h) (get_or es e no_edge).source (decodes C e h).traced.source m z;
        viewed = rw q at (M.viewed n T es C);
      },
      record {
        few = C.few;
        by_owner = M.by_owner;
        by_code = length-drop 1 ws ∙ (let l = C.long in omega arith);
        label = λ e h. label_word T.productions es e (get_or owners e 0) (get_or (drop 1 ws) e 0) (M.owned n T es C e (omega arith)) (label_is (decodes C e h) ∙ ap item_in (sym (get_or-drop 1 ws e 0)));
        fits = λ e h. label_fits (decodes C e h) es e refl;
      },
    )
