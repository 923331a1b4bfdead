-- The traces of table B, computed from their definitions: the shift of + and both reductions in state 3, and the shift of n in state 2.
use Rattle.std.proofs.Common.{◌≡◌, ℕ, true, List, [], ◌∷◌, map, refl}
use Rattle.lr1_base.specs.words.Same.{same_words}
use Rattle.lr1_base.specs.repr.Lists.{up_from, below, mem, keep, some?, every?, joined}
use Rattle.lr1_base.specs.repr.Meaning.{nonterminal, terminal, is_same_symbol, Item, Table}
use Rattle.lr1_base.specs.lookahead.Tokens.{has, single, union, without}
use Rattle.lr1_base.specs.item.Items.{first, symbol_sets, is_nonterminal, shifts_nonterminal}
use Rattle.first.specs.First.{join, first_of, marked_at_end, unmarked, first0, grown, round, settle, sets_of_first, FIRST, nullable}
use Rattle.state_graph.specs.Walk.{leads, predecessors, walked_back, traced_back}
use Rattle.trace_graph.specs.Graph.{Node, at_nonterminal, at_item, same_item, is_same_node, TraceEdge, label_of, same_symbols, same_cursor, same_sets, is_same_edge, add, is_node_of}
use Rattle.trace_graph.specs.Words.{node_words, edge_words, graph_words, node_of, node_at, edge_at, edges_in}
use Rattle.trace_graph.specs.Fits.{item_is_fit, node_fits, edge_is_fit, once, graph_fits}
use Rattle.trace.specs.Traced.{untraced, pair, enter, add_to, owner_of, symbols_of, can_shift, prefix_of, suffix_of, in_turn}
use Rattle.trace.specs.Shift.{epsilon_item, epsilon, shift_trace, shift_edges}
use Rattle.trace.specs.Reduce.{reduce_state_item, item_of_reduce, state_of_reduce, reduce_trace, reduce_edges}

abbrev item : ℕ → ℕ → Item
item p i = record { production = p; index = i }

abbrev edge : Node → Node → Item → TraceEdge
edge v w i = record { source = v; target = w; label = i }

-- what table B means: E is E + E, or n
abbrev pub table_b : Table
table_b = record {
  terminals = 2;
  nonterminals = (0 ∷ 1 ∷ []) ∷ [];
  productions = record { nonterminal = 0; symbols = nonterminal 0 ∷ terminal 0 ∷ nonterminal 0 ∷ []; start = 0; end = 9 }
      ∷ record { nonterminal = 0; symbols = terminal 1 ∷ []; start = 12; end = 13 }
      ∷ [];
  states = record { items = item 0 0 ∷ item 1 0 ∷ []; edges = record { symbol = nonterminal 0; target = 1 } ∷ [] }
      ∷ record { items = item 0 1 ∷ []; edges = record { symbol = terminal 0; target = 2 } ∷ [] }
      ∷ record { items = item 0 2 ∷ item 0 0 ∷ item 1 0 ∷ []; edges = record { symbol = nonterminal 0; target = 3 } ∷ [] }
      ∷ record { items = item 0 3 ∷ item 0 1 ∷ []; edges = record { symbol = terminal 0; target = 2 } ∷ [] }
      ∷ [];
}

-- E = E (*) + E in state 3: from E, which E + (*) E in state 2 takes, also as the first of another E + E
abbrev pub shift_b : List TraceEdge
shift_b =
    edge (at_nonterminal 0) (at_item (item 0 1)) (item 0 1)
    ∷ edge (at_item (item 0 2)) (at_nonterminal 0) (item 0 2)
    ∷ edge (at_nonterminal 0) (at_nonterminal 0) (item 0 0)
    ∷ []

-- E = E + E (*) in state 3: from E, which (*) E + E takes before +, and E + (*) E with nothing after it, so that this is traced on
abbrev pub reduce_b : List TraceEdge
reduce_b =
    edge (at_nonterminal 0) (at_item (item 0 3)) (item 0 3)
    ∷ edge (at_item (item 0 0)) (at_nonterminal 0) (item 0 0)
    ∷ edge (at_nonterminal 0) (at_nonterminal 0) (item 0 2)
    ∷ edge (at_nonterminal 0) (at_item (item 0 2)) (item 0 2)
    ∷ []

-- E = n (*), which is not in state 3: no edge leads there by n
abbrev pub reduce_n : List TraceEdge
reduce_n = edge (at_nonterminal 0) (at_item (item 1 1)) (item 1 1) ∷ []

-- E = (*) n in state 2
abbrev pub shift_n : List TraceEdge
shift_n =
    edge (at_nonterminal 0) (at_item (item 1 0)) (item 1 0)
    ∷ edge (at_item (item 0 2)) (at_nonterminal 0) (item 0 2)
    ∷ edge (at_nonterminal 0) (at_nonterminal 0) (item 0 0)
    ∷ []

pub marked_traces : shift_edges table_b 3 (item 0 1) ∷ reduce_edges table_b 3 (item 0 3) ∷ reduce_edges table_b 3 (item 1 1) ∷ shift_edges table_b 2 (item 1 0) ∷ [] ≡ shift_b ∷ reduce_b ∷ reduce_n ∷ shift_n ∷ []
unfolding up_from below mem keep some? is_same_symbol has single union without first symbol_sets is_nonterminal shifts_nonterminal join first_of marked_at_end unmarked first0 grown round same_words settle sets_of_first FIRST nullable leads predecessors walked_back traced_back same_item is_same_node label_of same_symbols same_cursor same_sets is_same_edge add untraced pair enter add_to owner_of symbols_of can_shift prefix_of suffix_of in_turn epsilon_item epsilon shift_trace shift_edges reduce_state_item item_of_reduce state_of_reduce reduce_trace reduce_edges
marked_traces = refl

-- their graphs pass the check of a lent graph, and the traced items are nodes
pub marked_graphs : map (λ es. graph_fits 1 table_b.productions (graph_words es)) (shift_b ∷ reduce_b ∷ reduce_n ∷ shift_n ∷ []) ≡ true ∷ true ∷ true ∷ true ∷ []
unfolding up_from below some? every? joined is_same_symbol first symbol_sets same_item is_same_node label_of same_symbols same_cursor same_sets is_same_edge node_words edge_words graph_words node_of node_at edge_at edges_in item_is_fit node_fits edge_is_fit once graph_fits
marked_graphs = refl

pub marked_nodes : is_node_of (at_item (item 0 1)) shift_b ∷ is_node_of (at_item (item 0 3)) reduce_b ∷ is_node_of (at_item (item 1 1)) reduce_n ∷ is_node_of (at_item (item 1 0)) shift_n ∷ [] ≡ true ∷ true ∷ true ∷ true ∷ []
unfolding some? same_item is_same_node is_node_of
marked_nodes = refl
