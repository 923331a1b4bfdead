-- The ways through a trace: refusals 9, 11 and 12, and the graph handed over.
use Rattle.std.proofs.Common.{◌≡◌, ℕ, ◌<◌, ◌≤◌, Bool, true, false, ◌&&◌, ltb, leb, List, ◌++◌, length, get_or, drop, sym, refl, ap, ◌∙◌, le-ltb, lt-ltb, le-leb}
use borrow.Author.Tests.{lt-leb}
use Rattle.lr1_base.specs.repr.Reply.{answered, refused}
use Rattle.lr1_base.specs.repr.Sizes.{production_limit, edge_limit, edge_place, graph_room, scratch_words}
use Rattle.lr1_base.specs.words.Lent.{in_front, zeroed}
use Rattle.lr1_base.specs.repr.Meaning.{Item, Table, Production, ItemFits}
use Rattle.lr1_base.specs.repr.Packed.{Packed, productions_in}
use Rattle.trace_graph.specs.Graph.{TraceEdge}
use Rattle.trace_graph.specs.Words.{graph_words}
use Rattle.trace_graph.specs.Fits.{item_is_fit}
use Rattle.trace.specs.Outcome.{Outcome, outcome, edges_outcome, traced_in}
use Rattle.table.specs.Checked.{Accepted}
use Rattle.table.specs.Decoded.{meaning}
use Rattle.table.proofs.Decoding.{fits}
use Rattle.trace.proofs.Traced.{fits-item}
use Rattle.trace.specs.edge_codes.Coded.{Coded, Leasts}
use Rattle.trace.specs.edge_codes.Carried.{Carried}
use Rattle.table.specs.Refusals.{check_of}
use Rattle.trace.specs.Built.{Asked}
use Rattle.trace.specs.Held.{Working}
use Rattle.trace.proofs.Words.{words_long}

-- the tests of a trace, in their order

unfoldable ways : Bool → Bool → Bool → Bool → Outcome → Outcome → Outcome → Outcome
ways a b c d x y z = elim (a && b) [ false ↦ x | true ↦ elim (c && d) [ false ↦ y | true ↦ z ] ]

ways_state : (b c d : Bool) (x y z : Outcome) → ways false b c d x y z ≡ x
unfolding ways
ways_state b c d x y z = refl

ways_item : (c d : Bool) (x y z : Outcome) → ways true false c d x y z ≡ x
unfolding ways
ways_item c d x y z = refl

ways_graph : (d : Bool) (x y z : Outcome) → ways true true false d x y z ≡ y
unfolding ways
ways_graph d x y z = refl

ways_scratch : (x y z : Outcome) → ways true true true false x y z ≡ y
unfolding ways
ways_scratch x y z = refl

ways_all : (x y z : Outcome) → ways true true true true x y z ≡ z
unfolding ways
ways_all x y z = refl

unfoldable either : Bool → Outcome → Outcome → Outcome
either b x y = elim b [ true ↦ x | false ↦ y ]

either_true : (x y : Outcome) → either true x y ≡ x
unfolding either
either_true x y = refl

either_false : (x y : Outcome) → either false x y ≡ y
unfolding either
either_false x y = refl

edges_either : (graph scratch : List ℕ) (es : List TraceEdge) → edges_outcome graph scratch es ≡ either (leb (length es) edge_limit) (outcome (answered (length es)) (in_front (graph_words es) graph) (zeroed scratch_words scratch)) (outcome (refused 12 0) graph (zeroed scratch_words scratch))
unfolding edges_outcome either
edges_either graph scratch es = refl

-- refusals 9 and 11, and the trace

module _ (edges : Table → ℕ → Item → List TraceEdge) (s p i : ℕ) (graph scratch : List ℕ) (T : Table) where
  trace_ways : traced_in edges s (record { production = p; index = i }) graph scratch T ≡ ways (ltb s (length T.states)) (item_is_fit T.productions p i) (leb graph_room (length graph)) (leb scratch_words (length scratch)) (outcome (refused 9 0) graph scratch) (outcome (refused 11 0) graph scratch) (edges_outcome graph scratch (edges T s (record { production = p; index = i })))
  unfolding traced_in ways
  trace_ways = refl

  pub refused_state : length T.states ≤ s → outcome (refused 9 0) graph scratch ≡ traced_in edges s (record { production = p; index = i }) graph scratch T
  refused_state h = sym (trace_ways ∙ rw (le-ltb s (length T.states) h) (ways_state _ _ _ _ _ _))

  module _ (h : s < length T.states) where
    pub refused-item : item_is_fit T.productions p i ≡ false → outcome (refused 9 0) graph scratch ≡ traced_in edges s (record { production = p; index = i }) graph scratch T
    refused-item e = sym (trace_ways ∙ rw (lt-ltb s (length T.states) h, e) (ways_item _ _ _ _ _))

    module _ (e : item_is_fit T.productions p i ≡ true) where
      pub refused_graph : length graph < graph_room → outcome (refused 11 0) graph scratch ≡ traced_in edges s (record { production = p; index = i }) graph scratch T
      refused_graph l = sym (trace_ways ∙ rw (lt-ltb s (length T.states) h, e, lt-leb graph_room (length graph) l) (ways_graph _ _ _ _))

      pub refused_scratch : graph_room ≤ length graph → length scratch < scratch_words → outcome (refused 11 0) graph scratch ≡ traced_in edges s (record { production = p; index = i }) graph scratch T
      refused_scratch l m = sym (trace_ways ∙ rw (lt-ltb s (length T.states) h, e, le-leb graph_room (length graph) l, lt-leb scratch_words (length scratch) m) (ways_scratch _ _ _))

      pub traced : (o : Outcome) → graph_room ≤ length graph → scratch_words ≤ length scratch → o ≡ edges_outcome graph scratch (edges T s (record { production = p; index = i })) → o ≡ traced_in edges s (record { production = p; index = i }) graph scratch T
      traced o l m q = q ∙ sym (trace_ways ∙ rw (lt-ltb s (length T.states) h, e, le-leb graph_room (length graph) l, le-leb scratch_words (length scratch) m) (ways_all _ _ _))

-- what is read of the productions tells whether the item fits
pub item_tells : (g : List ℕ) (ps : List Production) (m p i : ℕ) (b c : Bool) → productions_in g m ≡ ps → b ≡ item_is_fit (productions_in g m) p i → b ≡ c → item_is_fit ps p i ≡ c
item_tells g ps m p i b c e q r = ap (λ (l : List Production). item_is_fit l p i) (sym e) ∙ sym q ∙ r

-- the answer is one of the two

module _ (es : List TraceEdge) (graph scratch graph' scratch' : List ℕ) (ez : scratch' ≡ zeroed scratch_words scratch) where
  pub handed-over : (count : ℕ) → length es ≤ edge_limit → graph' ≡ in_front (graph_words es) graph → count ≡ get_or graph' 0 0 → outcome (answered count) graph' scratch' ≡ edges_outcome graph scratch es
  unfolding in_front graph_words
  handed-over count few eg ec = make (ec ∙ ap (λ (l : List ℕ). get_or l 0 0) eg) eg ez ∙ sym (edges_either graph scratch es ∙ rw (le-leb (length es) edge_limit few) (either_true _ _))
    where
      make : {a b : ℕ} {x y u v : List ℕ} → a ≡ b → x ≡ y → u ≡ v → outcome (answered a) x u ≡ outcome (answered b) y v
      make e f g = λ j. outcome (answered (e j)) (f j) (g j)

  pub overfull : edge_limit < length es → graph' ≡ graph → outcome (refused 12 0) graph' scratch' ≡ edges_outcome graph scratch es
  overfull h eg = rw (eg, ez) (sym (edges_either graph scratch es ∙ rw (lt-leb (length es) edge_limit h) (either_false _ _)))

-- what a trace works over, and its words

module _ {t g : List ℕ} {productions s p i : ℕ} (ok : check_of t ≡ Accepted) (P : Packed g productions) (A : Asked t g productions s p i) where
  pub working : (ls : List ℕ) → Leasts (productions_in g productions) ls → ((j : ℕ) → j < production_limit → get_or ls j 0 < production_limit) → Working t g productions ls
  working ls L small = record { accepted = ok; packed = P; same = A.same; least = rw A.same at L; small = small }

  pub asked-item : ItemFits (meaning t) (record { production = p; index = i })
  asked-item = fits-item (meaning t) (record { production = p; index = i }) (ap (λ (ps : List Production). item_is_fit ps p i) (sym A.same) ∙ A.item)

  pub carried : (ws fs : List ℕ) (es : List TraceEdge) → Coded (meaning t) ws fs es → Carried g productions ws (meaning t) es
  carried ws fs es C = record {
    fits = fits t ok;
    packed = P;
    same = A.same;
    long = C.long;
    few = C.few;
    count = C.count;
    codes = C.codes;
    traced = C.traced;
  }

pub front_is : (es : List TraceEdge) (graph graph' : List ℕ) → graph' ≡ graph_words es ++ drop (edge_place (length es)) graph → graph' ≡ in_front (graph_words es) graph
unfolding in_front
front_is es graph graph' e = e ∙ ap (λ (k : ℕ). graph_words es ++ drop k graph) (sym (words_long es))
