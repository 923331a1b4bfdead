-- Table C traced, its graphs added to and listed: whole outcomes of the definitions that the public contracts cite, each a statement. The expected answers are the Rust's (oracle/README.md).
use Rattle.std.proofs.Common.{◌≡◌, ℕ, List, [], ◌∷◌, ◌++◌, replicate, refl}
use Rattle.lr1_base.specs.repr.Reply.{answered}
use Rattle.lr1_base.specs.repr.Lists.{up_from, below, mem, occurrences, keep, some?, every?, first?, joined}
use Rattle.lr1_base.specs.repr.Sizes.{scratch_words}
use Rattle.lr1_base.specs.repr.Meaning.{is_same_symbol, Item}
use Rattle.lr1_base.specs.repr.Listed.{symbol_of_kind, symbol_is_fit}
use Rattle.lr1_base.specs.words.Same.{same_words}
use Rattle.lr1_base.specs.words.Lent.{in_front, zeroed}
use Rattle.lr1_base.specs.lookahead.Tokens.{has, single, union, meet, without, members}
use Rattle.lr1_base.specs.item.Items.{first, symbol_sets, is_nonterminal, shifts_nonterminal}
use Rattle.table.specs.Words.{word_at, records, state_area, production_area, loose, production_records, loose_records, names, against, chain_by, chain}
use Rattle.table.specs.Decoded.{production_chain, symbol_chain, item_chain, edge_chain, symbol_at, item_at, edge_at, or_zero, owner_of as owner_in, production_of, state_of, productions_of, meaning}
use Rattle.table.specs.Refusals.{row1, row2, is_nonterminal as nonterminal_record, is_state, is_production, as_symbol, as_item, as_edge, row3, row4, row5, row6, row7, used, row8, offends, first_row, check_of}
use Rattle.first.specs.First.{join, first_of, marked_at_end, unmarked, first0, meets_ahead, disjoint, grown, round, settle, sets_of_first, FIRST, nullable}
use Rattle.state_graph.specs.Walk.{leads, predecessors, walked_back, traced_back}
use Rattle.trace_graph.specs.declared.TraceEdge.{TraceEdge as EdgeValue}
use Rattle.trace_graph.specs.Graph.{same_item, is_same_node, label_of, same_symbols as alike, same_cursor, same_sets, is_same_edge, add, is_node_of}
use Rattle.trace_graph.specs.Words.{node_words, edge_words, graph_words, node_of, node_at, edge_at as lent_edge, edges_in}
use Rattle.trace_graph.specs.Fits.{item_is_fit, node_fits, edge_is_fit, once, graph_fits}
use Rattle.trace_graph.specs.Values.{node_is, edge_is, node_value_fits, value_fits}
use Rattle.trace.specs.Traced.{untraced, pair, enter, add_to, owner_of, symbols_of, can_shift, prefix_of, suffix_of, in_turn}
use Rattle.trace.specs.Shift.{epsilon_item, epsilon, shift_trace, shift_edges}
use Rattle.trace.specs.Reduce.{reduce_state_item, item_of_reduce, state_of_reduce, reduce_trace, reduce_edges}
use Rattle.trace.specs.Outcome.{Outcome, outcome, edges_outcome, traced_in, trace_by, shift_of, reduce_of}
use Rattle.lr1.specs.Entries.{over_table}
use Rattle.lr1.specs.Edges.{edge_outcome, added_outcome, added_edge_in, add_edge_of}
use Rattle.enumerator.specs.example.Example.{sets_of, prefixes, suffixes, at_cursor, middle, symbols, spans, reductions, symbol_words, reduction_words, example_words, cursor_of, ahead, meets}
use Rattle.enumerator.specs.trials.Trials.{trials}
use Rattle.enumerator.specs.trials.Words.{words_of, path_in, has_trial, after}
use Rattle.enumerator.specs.trials.Lister.{enough, owner_of_node, label_at, labels_of, passes, hands, says, search, found_out, found_then, plain_find, plain_out, plain_then, plain_run, plain_lister}
use Rattle.enumerator.specs.trials.Advance.{set_of, start_of, ahead_fits, lent_graph_fits, asked as asked_in, moved, found_outcome, rest_of, lost, advance_in, advance_by, advance_of, open_in, open_by, open_of}
use Rattle.enumerator.specs.trials.Calls.{left_by, listing_by, scratch_by, called, scratch_after, lengths, left_of, left_all}
use Rattle.enumerator.specs.trials.Lookahead.{Lookahead}
use Rattle.std.specs.Prelude.{None, Some}
use Rattle.listing.specs.CallList.{lents_in, output_words, number_of_answer, record_of, records_of, refusal_by, refusal_of_calls, Ran, listed, list_by, list_of}
use Rattle.lihvemur_c.specs.TableC.{table_c}

abbrev item : ℕ → ℕ → Item
item p i = record { production = p; index = i }

-- the edge from S to A by an item of A A
abbrev by_item : ℕ → EdgeValue
by_item i = record { source = record { kind = 0; number = 0; index = 0 }; target = record { kind = 0; number = 1; index = 0 }; label = record { production = 1; index = i } }

-- the graphs: of A = (*) a in state 1; of A = (*) nothing in states 1 and 2, where the A behind it, or nothing, is nullable
abbrev shift_c : List ℕ
shift_c =
    3 ∷ 0 ∷ 1 ∷ 0 ∷ 1 ∷ 2 ∷ 0 ∷ 2 ∷ 0 ∷ 0 ∷ 0 ∷ 0 ∷ 0 ∷ 1 ∷ 0 ∷ 1 ∷ 0
    ∷ 1 ∷ 0 ∷ 1 ∷ 0 ∷ 0 ∷ 0 ∷ 0 ∷ 1 ∷ []

abbrev reduce_c : List ℕ
reduce_c =
    4 ∷ 0 ∷ 1 ∷ 0 ∷ 1 ∷ 3 ∷ 0 ∷ 3 ∷ 0 ∷ 0 ∷ 0 ∷ 0 ∷ 0 ∷ 1 ∷ 0 ∷ 1 ∷ 0
    ∷ 0 ∷ 0 ∷ 0 ∷ 1 ∷ 1 ∷ 0 ∷ 1 ∷ 0 ∷ 1 ∷ 0 ∷ 1 ∷ 0 ∷ 0 ∷ 0 ∷ 0 ∷ 1 ∷ []

abbrev reduce_behind : List ℕ
reduce_behind =
    4 ∷ 0 ∷ 1 ∷ 0 ∷ 1 ∷ 3 ∷ 0 ∷ 3 ∷ 0 ∷ 0 ∷ 0 ∷ 0 ∷ 0 ∷ 1 ∷ 0 ∷ 1 ∷ 1
    ∷ 0 ∷ 0 ∷ 0 ∷ 1 ∷ 1 ∷ 1 ∷ 1 ∷ 1 ∷ 1 ∷ 0 ∷ 1 ∷ 0 ∷ 0 ∷ 0 ∷ 0 ∷ 1 ∷ []

-- shift_c with the edge of A A behind the first A
abbrev shift_more : List ℕ
shift_more =
    4 ∷ 0 ∷ 1 ∷ 0 ∷ 1 ∷ 2 ∷ 0 ∷ 2 ∷ 0 ∷ 0 ∷ 0 ∷ 0 ∷ 0 ∷ 1 ∷ 0 ∷ 1 ∷ 0
    ∷ 1 ∷ 0 ∷ 1 ∷ 0 ∷ 0 ∷ 0 ∷ 0 ∷ 1 ∷ 0 ∷ 0 ∷ 0 ∷ 0 ∷ 1 ∷ 0 ∷ 1 ∷ 1 ∷ []

-- b (*) a A b; b (*) A b with the empty mark; b A (*) b with it
abbrev line_a : List ℕ
line_a = 4 ∷ 1 ∷ 3 ∷ 1 ∷ 1 ∷ 1 ∷ 0 ∷ 0 ∷ 1 ∷ 1 ∷ 1 ∷ 1 ∷ 2 ∷ 1 ∷ 1 ∷ 3 ∷ 0 ∷ 0 ∷ 4 ∷ 0 ∷ []

abbrev line_r : List ℕ
line_r = 4 ∷ 1 ∷ 3 ∷ 1 ∷ 1 ∷ 2 ∷ 0 ∷ 0 ∷ 1 ∷ 1 ∷ 1 ∷ 1 ∷ 2 ∷ 1 ∷ 1 ∷ 3 ∷ 0 ∷ 0 ∷ 4 ∷ 0 ∷ []

abbrev line_behind : List ℕ
line_behind = 4 ∷ 2 ∷ 3 ∷ 1 ∷ 1 ∷ 0 ∷ 1 ∷ 2 ∷ 0 ∷ 1 ∷ 1 ∷ 2 ∷ 3 ∷ 1 ∷ 1 ∷ 3 ∷ 0 ∷ 0 ∷ 4 ∷ 0 ∷ []

-- lent lists with words behind those that 11 asks
abbrev graph : List ℕ
graph = replicate 8195 7

abbrev scratch : List ℕ
scratch = replicate 32001 7

-- 25 words of a graph, and 33, with sevens behind
abbrev short : List ℕ → List ℕ
short ws = ws ++ replicate 8170 7

abbrev long : List ℕ → List ℕ
long ws = ws ++ replicate 8162 7

-- two calls lent what 11 asks, and an output of one word more
abbrev calls : List ℕ
calls = 8195 ∷ 32001 ∷ 1158 ∷ 8195 ∷ 32001 ∷ 1158 ∷ []

abbrev output : List ℕ
output = replicate 2323 7

-- a trace of item 0 of a production, answered by so many edges
abbrev leaves : ℕ → List ℕ → Outcome
leaves n g = outcome (answered n) g (replicate scratch_words 0 ++ 7 ∷ [])

pub marked_traces :
    shift_of table_c 1 (item 2 0) graph scratch
    ∷ reduce_of table_c 1 (item 3 0) graph scratch
    ∷ reduce_of table_c 2 (item 3 0) graph scratch
    ∷ []
    ≡ leaves 3 (short shift_c) ∷ leaves 4 (long reduce_c) ∷ leaves 4 (long reduce_behind) ∷ []
unfolding up_from below mem occurrences keep some? every? first? joined is_same_symbol symbol_of_kind symbol_is_fit has single union meet without members first symbol_sets is_nonterminal shifts_nonterminal word_at records state_area production_area loose production_records loose_records names against chain_by chain production_chain symbol_chain item_chain edge_chain symbol_at item_at edge_at or_zero owner_in production_of state_of productions_of meaning row1 row2 nonterminal_record is_state is_production as_symbol as_item as_edge row3 row4 row5 row6 row7 used row8 offends first_row check_of join first_of marked_at_end unmarked first0 meets_ahead disjoint grown round settle sets_of_first FIRST nullable leads predecessors walked_back traced_back same_item is_same_node label_of alike same_cursor same_sets is_same_edge add is_node_of node_words edge_words graph_words node_of node_at lent_edge edges_in item_is_fit node_fits edge_is_fit once graph_fits node_is edge_is node_value_fits value_fits untraced pair enter add_to owner_of symbols_of can_shift prefix_of suffix_of in_turn epsilon_item epsilon shift_trace shift_edges reduce_state_item item_of_reduce state_of_reduce reduce_trace reduce_edges in_front zeroed edges_outcome traced_in trace_by shift_of reduce_of same_words
marked_traces = refl

pub marked_edges :
    add_edge_of table_c (by_item 1) (short shift_c) ∷ add_edge_of table_c (by_item 0) (short shift_c) ∷ []
    ≡ edge_outcome (answered 4) (long shift_more) ∷ edge_outcome (answered 3) (short shift_c) ∷ []
unfolding up_from below mem occurrences keep some? every? first? joined is_same_symbol symbol_of_kind symbol_is_fit has single union meet without members first symbol_sets is_nonterminal shifts_nonterminal word_at records state_area production_area loose production_records loose_records names against chain_by chain production_chain symbol_chain item_chain edge_chain symbol_at item_at edge_at or_zero owner_in production_of state_of productions_of meaning row1 row2 nonterminal_record is_state is_production as_symbol as_item as_edge row3 row4 row5 row6 row7 used row8 offends first_row check_of join first_of marked_at_end unmarked first0 meets_ahead disjoint grown round settle sets_of_first FIRST nullable leads predecessors walked_back traced_back same_item is_same_node label_of alike same_cursor same_sets is_same_edge add is_node_of node_words edge_words graph_words node_of node_at lent_edge edges_in item_is_fit node_fits edge_is_fit once graph_fits node_is edge_is node_value_fits value_fits in_front over_table added_outcome added_edge_in add_edge_of same_words zeroed
marked_edges = refl

abbrev lists : ℕ → Lookahead → List ℕ → Ran
lists p ahead ws = list_of table_c (item p 0) ahead calls ws scratch output

-- an answer with its count, and words at the front of its buffer; then the end with the count of all trials; the last word of the output as it was
abbrev told : ℕ → List ℕ → List ℕ → Ran
told answer ws rest = listed (answered 2) (replicate scratch_words 0 ++ 7 ∷ []) (answer ∷ 3 ∷ 0 ∷ ws ++ (rest ++ (16 ∷ 3 ∷ 0 ∷ replicate 1159 7)))

abbrev example : List ℕ → Ran
example ws = told 0 ws (replicate 1138 7)

pub marked_shift_listing : lists 2 None (short shift_c) ≡ example line_a
unfolding up_from below mem occurrences keep some? every? first? joined is_same_symbol symbol_of_kind symbol_is_fit has single union meet without members first symbol_sets is_nonterminal shifts_nonterminal word_at records state_area production_area loose production_records loose_records names against chain_by chain production_chain symbol_chain item_chain edge_chain symbol_at item_at edge_at or_zero owner_in production_of state_of productions_of meaning row1 row2 nonterminal_record is_state is_production as_symbol as_item as_edge row3 row4 row5 row6 row7 used row8 offends first_row check_of join first_of marked_at_end unmarked first0 meets_ahead disjoint grown round settle sets_of_first FIRST nullable leads predecessors walked_back traced_back same_item is_same_node label_of alike same_cursor same_sets is_same_edge add is_node_of node_words edge_words graph_words node_of node_at lent_edge edges_in item_is_fit node_fits edge_is_fit once graph_fits node_is edge_is node_value_fits value_fits owner_of symbols_of sets_of prefixes suffixes at_cursor middle symbols spans reductions symbol_words reduction_words example_words cursor_of ahead meets trials words_of path_in same_words has_trial after enough owner_of_node label_at labels_of passes hands says search found_out found_then plain_find plain_out plain_then plain_run plain_lister set_of start_of ahead_fits lent_graph_fits asked_in moved found_outcome rest_of lost advance_in advance_by advance_of open_in open_by open_of left_by listing_by scratch_by called scratch_after lengths left_of left_all lents_in output_words number_of_answer record_of records_of refusal_by refusal_of_calls list_by list_of in_front zeroed
marked_shift_listing = refl

pub marked_reduce_listing : lists 3 (Some (record { 0 = 1 })) (long reduce_c) ≡ example line_r
unfolding up_from below mem occurrences keep some? every? first? joined is_same_symbol symbol_of_kind symbol_is_fit has single union meet without members first symbol_sets is_nonterminal shifts_nonterminal word_at records state_area production_area loose production_records loose_records names against chain_by chain production_chain symbol_chain item_chain edge_chain symbol_at item_at edge_at or_zero owner_in production_of state_of productions_of meaning row1 row2 nonterminal_record is_state is_production as_symbol as_item as_edge row3 row4 row5 row6 row7 used row8 offends first_row check_of join first_of marked_at_end unmarked first0 meets_ahead disjoint grown round settle sets_of_first FIRST nullable leads predecessors walked_back traced_back same_item is_same_node label_of alike same_cursor same_sets is_same_edge add is_node_of node_words edge_words graph_words node_of node_at lent_edge edges_in item_is_fit node_fits edge_is_fit once graph_fits node_is edge_is node_value_fits value_fits owner_of symbols_of sets_of prefixes suffixes at_cursor middle symbols spans reductions symbol_words reduction_words example_words cursor_of ahead meets trials words_of path_in same_words has_trial after enough owner_of_node label_at labels_of passes hands says search found_out found_then plain_find plain_out plain_then plain_run plain_lister set_of start_of ahead_fits lent_graph_fits asked_in moved found_outcome rest_of lost advance_in advance_by advance_of open_in open_by open_of left_by listing_by scratch_by called scratch_after lengths left_of left_all lents_in output_words number_of_answer record_of records_of refusal_by refusal_of_calls list_by list_of in_front zeroed
marked_reduce_listing = refl

pub marked-behind-listing : lists 3 (Some (record { 0 = 2 })) (long reduce_behind) ≡ example line_behind
unfolding up_from below mem occurrences keep some? every? first? joined is_same_symbol symbol_of_kind symbol_is_fit has single union meet without members first symbol_sets is_nonterminal shifts_nonterminal word_at records state_area production_area loose production_records loose_records names against chain_by chain production_chain symbol_chain item_chain edge_chain symbol_at item_at edge_at or_zero owner_in production_of state_of productions_of meaning row1 row2 nonterminal_record is_state is_production as_symbol as_item as_edge row3 row4 row5 row6 row7 used row8 offends first_row check_of join first_of marked_at_end unmarked first0 meets_ahead disjoint grown round settle sets_of_first FIRST nullable leads predecessors walked_back traced_back same_item is_same_node label_of alike same_cursor same_sets is_same_edge add is_node_of node_words edge_words graph_words node_of node_at lent_edge edges_in item_is_fit node_fits edge_is_fit once graph_fits node_is edge_is node_value_fits value_fits owner_of symbols_of sets_of prefixes suffixes at_cursor middle symbols spans reductions symbol_words reduction_words example_words cursor_of ahead meets trials words_of path_in same_words has_trial after enough owner_of_node label_at labels_of passes hands says search found_out found_then plain_find plain_out plain_then plain_run plain_lister set_of start_of ahead_fits lent_graph_fits asked_in moved found_outcome rest_of lost advance_in advance_by advance_of open_in open_by open_of left_by listing_by scratch_by called scratch_after lengths left_of left_all lents_in output_words number_of_answer record_of records_of refusal_by refusal_of_calls list_by list_of in_front zeroed
marked-behind-listing = refl

-- no example begins with a: the end at once
pub marked_no_listing : lists 3 (Some (record { 0 = 1 })) (long reduce_behind) ≡ told 16 [] (replicate 1158 7)
unfolding up_from below mem occurrences keep some? every? first? joined is_same_symbol symbol_of_kind symbol_is_fit has single union meet without members first symbol_sets is_nonterminal shifts_nonterminal word_at records state_area production_area loose production_records loose_records names against chain_by chain production_chain symbol_chain item_chain edge_chain symbol_at item_at edge_at or_zero owner_in production_of state_of productions_of meaning row1 row2 nonterminal_record is_state is_production as_symbol as_item as_edge row3 row4 row5 row6 row7 used row8 offends first_row check_of join first_of marked_at_end unmarked first0 meets_ahead disjoint grown round settle sets_of_first FIRST nullable leads predecessors walked_back traced_back same_item is_same_node label_of alike same_cursor same_sets is_same_edge add is_node_of node_words edge_words graph_words node_of node_at lent_edge edges_in item_is_fit node_fits edge_is_fit once graph_fits node_is edge_is node_value_fits value_fits owner_of symbols_of sets_of prefixes suffixes at_cursor middle symbols spans reductions symbol_words reduction_words example_words cursor_of ahead meets trials words_of path_in same_words has_trial after enough owner_of_node label_at labels_of passes hands says search found_out found_then plain_find plain_out plain_then plain_run plain_lister set_of start_of ahead_fits lent_graph_fits asked_in moved found_outcome rest_of lost advance_in advance_by advance_of open_in open_by open_of left_by listing_by scratch_by called scratch_after lengths left_of left_all lents_in output_words number_of_answer record_of records_of refusal_by refusal_of_calls list_by list_of in_front zeroed
marked_no_listing = refl
