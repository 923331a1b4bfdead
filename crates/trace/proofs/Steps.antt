-- The steps of both traces, as code takes them: what each adds, and that no step takes an edge away.
use Rattle.std.proofs.Common.{◌≡◌, ℕ, ◌<◌, ◌≤◌, List, length, get_or, ap, arith, le-ltb, lt-ltb}
use Rattle.lr1_base.specs.repr.Sizes.{production_place, edge_limit}
use Rattle.lr1_base.specs.repr.Meaning.{Item, Production, no_production, Table}
use Rattle.lr1_base.specs.repr.Packed.{production_in, productions_in}
use Rattle.lr1_base.proofs.repr.Lists.{get_d_map-below}
use Rattle.trace_graph.specs.Graph.{at_nonterminal, at_item}
use Rattle.trace.specs.Traced.{Trace, owner_of, in_turn, pairs}
use Rattle.trace.specs.Shift.{epsilon_item, epsilon}
use Rattle.trace.specs.Reduce.{reduce_state_item, item_of_reduce, state_of_reduce}
use Rattle.trace.specs.Edges.{epsilon_source, epsilon_edge}
use Rattle.trace.proofs.Grows.{Adds, grows_length, turn_grows, epsilon_item_grows, epsilon_grows, reduce_item_grows, reduce_state_item_grows, reduce_grows}

pub packed_owner : (g : List ℕ) (productions p : ℕ) → p < productions → (get_or (productions_in g productions) p no_production).nonterminal ≡ get_or g (production_place p) 0
unfolding productions_in production_in
packed_owner g productions p h = ap (λ (q : Production). q.nonterminal) (get_d_map-below (production_in g) productions p no_production h)

pub source_past : (ps : List Production) (i : Item) → 0 < i.index → epsilon_source ps i ≡ at_item i
unfolding epsilon_source
source_past ps i h = rw (lt-ltb 0 i.index h, epsilon_source)

pub source_beginning : (ps : List Production) (i : Item) → i.index ≤ 0 → epsilon_source ps i ≡ at_nonterminal (get_or ps i.production no_production).nonterminal
unfolding epsilon_source
source_beginning ps i h = rw (le-ltb 0 i.index h, epsilon_source)

module _ (T : Table) where
  pub edge_past : (i : Item) (n : ℕ) → 0 < i.index → epsilon_edge T.productions i n ≡ record { source = at_item i; target = at_nonterminal n; label = i }
  unfolding epsilon_edge
  edge_past i n h = rw (source_past T.productions i h)

  pub edge_beginning : (i : Item) (n : ℕ) → i.index ≤ 0 → epsilon_edge T.productions i n ≡ record { source = at_nonterminal (owner_of T i); target = at_nonterminal n; label = i }
  unfolding epsilon_edge owner_of
  edge_beginning i n h = rw (source_beginning T.productions i h)

-- a shift trace

module _ (T : Table) (s m : ℕ) where
  abbrev pub item_step : ℕ → Item → Trace → Trace
  item_step f = epsilon_item T m (λ k u. epsilon T f s k u)

  step_adds : (f : ℕ) (i : Item) → Adds (item_step f i)
  step_adds f i = epsilon_item_grows T m (λ k u. epsilon T f s k u) (epsilon_grows T f s) i

  -- what is too long after one item stays so
  pub step_exceeds : (f : ℕ) (i : Item) (is : List Item) (st : Trace) → edge_limit < length (item_step f i st).edges → edge_limit < length (in_turn (item_step f) is (item_step f i st)).edges
  step_exceeds f i is st h = let q = grows_length (turn_grows (item_step f) (step_adds f) is (item_step f i st)) in omega arith

-- what is done for each state
abbrev pub state_step : Table → ℕ → ℕ → Trace → Trace
state_step T m = λ p u. epsilon T pairs p m u

-- a reduce trace

abbrev pub from_state : Table → ℕ → ℕ → ℕ → Trace → Trace
from_state T o f p u = state_of_reduce T f p o u

abbrev pub on_item : Table → ℕ → ℕ → ℕ → Item → Trace → Trace
on_item T s m f = reduce_state_item T m (λ i u. item_of_reduce T (λ p k v. state_of_reduce T f p k v) s i u)

pub from_state_adds : (T : Table) (o f p : ℕ) → Adds (from_state T o f p)
from_state_adds T o f p = reduce_grows T f p o

trace_item_adds : (T : Table) (s f : ℕ) (i : Item) → Adds (item_of_reduce T (λ p k v. state_of_reduce T f p k v) s i)
trace_item_adds T s f i = reduce_item_grows T (λ p k v. state_of_reduce T f p k v) (reduce_grows T f) s i

pub on_item_adds : (T : Table) (s m f : ℕ) (i : Item) → Adds (on_item T s m f i)
on_item_adds T s m f i = reduce_state_item_grows T m (λ i u. item_of_reduce T (λ p k v. state_of_reduce T f p k v) s i u) (trace_item_adds T s f) i
