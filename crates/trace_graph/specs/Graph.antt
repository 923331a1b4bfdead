-- The trace graph (docs/RULES.md, "The trace graph"; lr1/trace/trace_graph): its edges in the order added; the nodes are the ends of edges.
use Rattle.std.specs.Prelude.{ℕ, Bool, true, false, ◌&&◌, List, [], ◌∷◌, ◌++◌, ◌==◌, slice_index_or}
use Rattle.std.proofs.Math.Option.{Option, none, some}
use Rattle.lr1_base.specs.repr.Lists.{some?}
use Rattle.lr1_base.specs.repr.Meaning.{Symbol, is_same_symbol, Item, Production, no_production}
use Rattle.lr1_base.specs.item.Items.{Sets, symbol_sets}

-- `TraceGraphNode`
pub data Node : Type 0 where
  at_nonterminal : ℕ → Node
  at_item : Item → Node

unfoldable pub same_item : Item → Item → Bool
same_item a b = a.production == b.production && a.index == b.index

unfoldable pub is_same_node : Node → Node → Bool
is_same_node (at_nonterminal n) (at_nonterminal m) = n == m
is_same_node (at_nonterminal n) (at_item b) = false
is_same_node (at_item a) (at_nonterminal m) = false
is_same_node (at_item a) (at_item b) = same_item a b

-- an edge; its label is the symbol sets of an item
pub record TraceEdge : Type 0 where
  pub source : Node
  pub target : Node
  pub label : Item

-- the empty graph that `TraceGraph::new` gives
abbrev pub empty_graph : List TraceEdge
empty_graph = []

unfoldable pub label_of : List Production → Item → Sets
label_of ps i = symbol_sets (slice_index_or ps i.production no_production).symbols i.index

unfoldable pub same_symbols : List Symbol → List Symbol → Bool
same_symbols [] [] = true
same_symbols [] (y ∷ ys) = false
same_symbols (x ∷ xs) [] = false
same_symbols (x ∷ xs) (y ∷ ys) = is_same_symbol x y && same_symbols xs ys

unfoldable pub same_cursor : Option Symbol → Option Symbol → Bool
same_cursor none none = true
same_cursor none (some y) = false
same_cursor (some x) none = false
same_cursor (some x) (some y) = is_same_symbol x y

unfoldable pub same_sets : Sets → Sets → Bool
same_sets a b = same_symbols a.prefix b.prefix && (same_cursor a.cursor b.cursor && same_symbols a.suffix b.suffix)

-- equal in both ends and in label, by its symbols and not by production
unfoldable pub is_same_edge : List Production → TraceEdge → TraceEdge → Bool
is_same_edge ps e f = is_same_node e.source f.source && (is_same_node e.target f.target && same_sets (label_of ps e.label) (label_of ps f.label))

-- `add_edge`: an edge that is there is not added again
unfoldable pub add : List Production → TraceEdge → List TraceEdge → List TraceEdge
add ps e es = elim (some? (is_same_edge ps e) es) [ true ↦ es | false ↦ es ++ e ∷ [] ]

-- a node of the graph
unfoldable pub is_node_of : Node → List TraceEdge → Bool
is_node_of v es = some? (λ e. elim (is_same_node v e.source) [ true ↦ true | false ↦ is_same_node v e.target ]) es

-- what stands where a list has no edge
abbrev pub no_edge : TraceEdge
no_edge = record { source = at_nonterminal 0; target = at_nonterminal 0; label = record { production = 0; index = 0 } }
