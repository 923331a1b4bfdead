-- An edge of a trace in one word: kind * item_limit + production * index_limit + index, production and index the label's. Kind 0: from a nonterminal into an item; 1: from a nonterminal into a nonterminal;
-- 2: from an item into a nonterminal.
use Rattle.std.specs.Prelude.{ℕ, zero, suc, ◌+◌, ◌*◌, ◌/◌, ◌%◌, Bool, true, false, ◌&&◌, List, length, ◌==◌, slice_index_or}
use Rattle.std.proofs.Math.Option.{Option, none, some}
use Rattle.lr1_base.specs.repr.Sizes.{index_limit, item_limit}
use Rattle.lr1_base.specs.repr.Lists.{below, first?}
use Rattle.lr1_base.specs.repr.Meaning.{Symbol, nonterminal, terminal, Item, Production, no_production, Table}
use Rattle.lr1_base.specs.item.Items.{symbol_sets}
use Rattle.table.specs.Decoded.{or_zero}
use Rattle.trace_graph.specs.Graph.{Node, at_nonterminal, at_item, TraceEdge, same_symbols}
use Rattle.trace.specs.Traced.{owner_of, symbols_of}
use Rattle.lr1_base.specs.item.Places.{item_place}

-- three kinds of each item
abbrev pub code_limit : ℕ
code_limit = 3 * item_limit

unfoldable pub kind_of : Node → Node → ℕ
kind_of (at_nonterminal n) (at_item j) = 0
kind_of (at_nonterminal n) (at_nonterminal m) = 1
kind_of (at_item i) w = 2

unfoldable pub code_of : TraceEdge → ℕ
code_of e = kind_of e.source e.target * item_limit + item_place e.label

-- the number of a nonterminal at the cursor
unfoldable pub number_of : Option Symbol → ℕ
number_of none = 0
number_of (some (nonterminal n)) = n
number_of (some (terminal t)) = 0

unfoldable pub cursor_of : Table → Item → ℕ
cursor_of T i = number_of (symbol_sets (symbols_of T i) i.index).cursor

-- the edge of a kind with a label
unfoldable pub edge_by : Table → ℕ → Item → TraceEdge
edge_by T zero i = record { source = at_nonterminal (owner_of T i); target = at_item i; label = i }
edge_by T (suc zero) i = record { source = at_nonterminal (owner_of T i); target = at_nonterminal (cursor_of T i); label = i }
edge_by T (suc (suc k)) i = record { source = at_item i; target = at_nonterminal (cursor_of T i); label = i }

unfoldable pub item_in : ℕ → Item
item_in c = record { production = c % item_limit / index_limit; index = c % item_limit % index_limit }

unfoldable pub edge_of : Table → ℕ → TraceEdge
edge_of T c = edge_by T (c / item_limit) (item_in c)

-- productions of the same nonterminal and symbols; the least of them
unfoldable pub is_same_production : List Production → ℕ → ℕ → Bool
is_same_production ps p q =
    ((slice_index_or ps p no_production).nonterminal == (slice_index_or ps q no_production).nonterminal) && same_symbols (slice_index_or ps p no_production).symbols (slice_index_or ps q no_production).symbols

unfoldable pub least_alike : List Production → ℕ → ℕ
least_alike ps p = or_zero (first? (λ q. is_same_production ps q p) (below (length ps)))

-- what is equal for equal edges alone (`same_key` of proofs/edge_codes/Keys)
unfoldable pub key_by : List Production → ℕ → Item → ℕ
key_by ps k i = k * item_limit + elim (k == 1) [ true ↦ least_alike ps i.production * index_limit + i.index | false ↦ item_place i ]

unfoldable pub key_of : List Production → ℕ → ℕ
key_of ps c = key_by ps (c / item_limit) (item_in c)
