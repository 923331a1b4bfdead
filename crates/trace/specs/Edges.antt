-- The edges that tracing adds, by the item that is at hand.
use Rattle.std.specs.Prelude.{ℕ, Bool, true, false, List, nat_lt, slice_index_or}
use Rattle.lr1_base.specs.repr.Meaning.{Item, Production, no_production}
use Rattle.trace_graph.specs.Graph.{Node, at_nonterminal, at_item, TraceEdge}

unfoldable pub item_at : ℕ → ℕ → Item
item_at p i = record { production = p; index = i }

-- a shift trace: where the edge of an item that can shift a nonterminal begins: past its beginning at the item, else at its nonterminal
unfoldable pub epsilon_source : List Production → Item → Node
epsilon_source ps i = elim (nat_lt 0 i.index) [ true ↦ at_item i | false ↦ at_nonterminal (slice_index_or ps i.production no_production).nonterminal ]

unfoldable pub epsilon_edge : List Production → Item → ℕ → TraceEdge
epsilon_edge ps i m = record { source = epsilon_source ps i; target = at_nonterminal m; label = i }

-- a reduce trace, o the nonterminal of the item: into a nonterminal that the item can shift, from o where tracing goes on, else from the item
unfoldable pub source_of : Bool → ℕ → Item → Node
source_of true o i = at_nonterminal o
source_of false o i = at_item i

unfoldable pub edge_to_nonterminal : Bool → ℕ → ℕ → Item → TraceEdge
edge_to_nonterminal on o m i = record { source = source_of on o i; target = at_nonterminal m; label = i }
