-- What holds of every accepted trace (`shift_sound` and `reduce_sound` of proofs/Traced): its numbers are in range and no edge stands twice, so its graph passes the check of
-- a lent graph; the traced item is a node of it; how the ends of an edge go with its label; and how one edge leads to another.
use Rattle.std.specs.Prelude.{◌≡◌, ℕ, ◌≤◌, Bool, true, false, ◌⊎◌, List, [], ◌∷◌, ◌++◌, length}
use mathlib.Core.List.{Memᴰ}
use Rattle.lr1_base.specs.repr.Sizes.{edge_limit}
use Rattle.lr1_base.specs.repr.Meaning.{Item, Table, All}
use Rattle.trace_graph.specs.Graph.{Node, at_nonterminal, at_item, TraceEdge, is_node_of}
use Rattle.trace_graph.specs.Words.{graph_words}
use Rattle.trace_graph.specs.Fits.{item_is_fit, once, graph_fits}
use Rattle.trace_graph.specs.Index.{InRange}
use Rattle.first.specs.First.{nullable}
use Rattle.trace.specs.Traced.{owner_of, can_shift, suffix_of}

-- a node's nonterminal: itself, or that of the item's production
unfoldable pub owner_of_node : Table → Node → ℕ
owner_of_node T (at_nonterminal n) = n
owner_of_node T (at_item i) = owner_of T i

-- not both ends are items
unfoldable pub apart_ends : Node → Node → Bool
apart_ends (at_nonterminal n) w = true
apart_ends (at_item i) (at_nonterminal m) = true
apart_ends (at_item i) (at_item j) = false

pub record EdgeSound (T : Table) (e : TraceEdge) : Type 0 where
  pub source : InRange (length T.nonterminals) T.productions e.source
  pub target : InRange (length T.nonterminals) T.productions e.target
  pub label : item_is_fit T.productions e.label.production e.label.index ≡ true
  -- the source's nonterminal is that of the label's production
  pub owner : owner_of_node T e.source ≡ owner_of T e.label
  -- into a nonterminal: it is the label's cursor
  pub cursor : (n : ℕ) → e.target ≡ at_nonterminal n → can_shift T n e.label ≡ true
  -- out of or into an item: it is the label
  pub from_item_lem : (i : Item) → e.source ≡ at_item i → i ≡ e.label
  pub to_item : (i : Item) → e.target ≡ at_item i → i ≡ e.label
  pub apart : apart_ends e.source e.target ≡ true

-- how a nonterminal leads to a nonterminal: in a shift trace by a label at its beginning, in a reduce trace by one whose suffix is nullable
pub record ShiftStep (T : Table) (e : TraceEdge) : Type 0 where
  pub beginning : (m n : ℕ) → e.source ≡ at_nonterminal m → e.target ≡ at_nonterminal n → e.label.index ≡ 0

pub record ReduceStep (T : Table) (e : TraceEdge) : Type 0 where
  pub ending : (m n : ℕ) → e.source ≡ at_nonterminal m → e.target ≡ at_nonterminal n → nullable T (suffix_of T e.label) ≡ true

-- n is the traced item's nonterminal, or the source of one of the edges
abbrev pub Known : Table → Item → List TraceEdge → ℕ → Type 0
Known T i es n = (n ≡ owner_of T i) ⊎ ((d : TraceEdge) × Memᴰ d es × (d.source ≡ at_nonterminal n))

-- the edges in the order added: the target nonterminal of each is the traced item's own or the source of another, one that was added before
pub data Rooted (T : Table) (i : Item) : List TraceEdge → Type 0 where
  bare : Rooted T i []
  one_more : {es : List TraceEdge} (e : TraceEdge) → Rooted T i es → ((n : ℕ) → e.target ≡ at_nonterminal n → Known T i es n) → Rooted T i (es ++ e ∷ [])

-- i: the traced item
pub record Sound (T : Table) (i : Item) (es : List TraceEdge) : Type 0 where
  pub edges : All (EdgeSound T) es
  pub once : once T.productions es ≡ true
  pub node : is_node_of (at_item i) es ≡ true
  pub rooted : Rooted T i es
  pub fits : length es ≤ edge_limit → graph_fits (length T.nonterminals) T.productions (graph_words es) ≡ true
