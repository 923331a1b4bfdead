-- The two listings of docs/RULES.md, "Table B", as the plain lister's whole output for three calls: the example with its count, the end with 3, the end again;
-- and that table and graphs are such as opening asks for.
use Rattle.std.proofs.Common.{◌≡◌, ℕ, true, List, [], ◌∷◌, ◌++◌, map, length, replicate, refl, ap, ◌∙◌, subst, arith}
use mathlib.Core.List.Memᴰ
use mathlib.Core.List.{Memᴰ}
use mathlib.Core.Option.{none, some}
use lib.ListN.{length-replicate}
use Rattle.lr1_base.specs.repr.Sizes.{graph_room, scratch_words, example_room}
use Rattle.lr1_base.specs.words.Same.{same_words}
use Rattle.lr1_base.specs.repr.Lists.{up_from, below, mem, occurrences, some?, every?, first?, joined}
use Rattle.lr1_base.specs.repr.Listed.{symbol_of_kind, symbol_is_fit}
use Rattle.lr1_base.specs.repr.Meaning.{Item, is_same_symbol}
use Rattle.lr1_base.specs.lookahead.Tokens.{has, single, union, meet, without}
use Rattle.lr1_base.specs.item.Items.{first, symbol_sets}
use Rattle.first.specs.First.{join, first_of, marked_at_end, unmarked, first0, meets_ahead, grown, round, settle, sets_of_first}
use Rattle.table.specs.Checked.{Accepted}
use Rattle.table.specs.Words.{word_at, records, state_area, production_area, loose, production_records, loose_records, names, against, chain_by, chain}
use Rattle.table.specs.Decoded.{production_chain, symbol_chain, item_chain, edge_chain, symbol_at, item_at, edge_at, or_zero, owner_of, production_of, state_of, productions_of, meaning}
use Rattle.table.specs.Refusals.{row1, row2, is_nonterminal, is_state, is_production, as_symbol, as_item, as_edge, row3, row4, row5, row6, row7, used, row8, offends, first_row, check_of}
use Rattle.table.specs.TableB.{table_b}
use Rattle.trace_graph.specs.Graph.{Node, at_nonterminal, at_item, same_item, is_same_node, TraceEdge, label_of, same_symbols, same_cursor, same_sets, is_same_edge, is_node_of}
use Rattle.trace_graph.specs.Words.{node_words, edge_words, graph_words, node_of, node_at, edge_at as lent_edge, edges_in}
use Rattle.trace_graph.specs.Fits.{item_is_fit, node_fits, edge_is_fit, once, graph_fits}
use Rattle.enumerator.specs.example.Example.{sets_of, prefixes, suffixes, at_cursor, middle, symbols, spans, reductions, symbol_words, reduction_words, example_words, cursor_of, ahead, meets}
use Rattle.enumerator.specs.trials.Trials.{Path, trials}
use Rattle.enumerator.specs.trials.Lister.{Call, enough, owner_of_node, label_at, labels_of, passes, hands, says, search, example, end, Out, found_out, found_then, plain_find, plain_out, plain_then, plain_run, plain_lister}
use Rattle.enumerator.specs.trials.Told.{path_lister, handed, ends, IsHanded, Handed}
use Rattle.enumerator.specs.trials.Advance.{set_of, ahead_fits, lent_graph_fits, asked}
use Rattle.std.specs.Prelude.{None, Some}
use Rattle.enumerator.specs.trials.Calls.{Lent, lengths}
use Rattle.enumerator.specs.trials.Opening.{listing, Ready}
use Rattle.enumerator.proofs.trials.Opening.{opens}
use Rattle.enumerator.proofs.trials.Demand.{demand}

abbrev item : ℕ → ℕ → Item
item p i = record { production = p; index = i }

abbrev edge : Node → Node → Item → TraceEdge
edge v w i = record { source = v; target = w; label = i }

-- the traces of table B: the shift of + in state 3, from E = E (*) + E
abbrev pub shift_b : List TraceEdge
shift_b =
    edge (at_nonterminal 0) (at_item (item 0 1)) (item 0 1)
    ∷ edge (at_item (item 0 2)) (at_nonterminal 0) (item 0 2)
    ∷ edge (at_nonterminal 0) (at_nonterminal 0) (item 0 0)
    ∷ []

-- and the reduction there, from E = E + E (*)
abbrev pub reduce_b : List TraceEdge
reduce_b =
    edge (at_nonterminal 0) (at_item (item 0 3)) (item 0 3)
    ∷ edge (at_item (item 0 0)) (at_nonterminal 0) (item 0 0)
    ∷ edge (at_nonterminal 0) (at_nonterminal 0) (item 0 2)
    ∷ edge (at_nonterminal 0) (at_item (item 0 2)) (item 0 2)
    ∷ []

abbrev whole : Call
whole = record { graph = graph_room; scratch = scratch_words; buffer = example_room }

abbrev saying : List ℕ → ℕ → Out
saying ws n = record { answer = example ws; count = n }

abbrev ending : ℕ → Out
ending n = record { answer = end; count = n }

-- lines a and r of docs/RULES.md, "Table B": 5 3 0/0 1/0 0/0 1/0 0/0, then 2-5/0 0-5/0 and 0-3/0 0-5/0
pub marked_listings :
    plain_lister (meaning table_b) shift_b (item 0 1) none (whole ∷ whole ∷ whole ∷ [])
    ∷ plain_lister (meaning table_b) reduce_b (item 0 3) (some 1) (whole ∷ whole ∷ whole ∷ [])
    ∷ []
    ≡ (saying (5 ∷ 3 ∷ 2 ∷ 0 ∷ 0 ∷ 1 ∷ 0 ∷ 0 ∷ 0 ∷ 1 ∷ 0 ∷ 0 ∷ 0 ∷ 2 ∷ 5 ∷ 0 ∷ 0 ∷ 5 ∷ 0 ∷ []) 3 ∷ ending 3 ∷ ending 3 ∷ [])
    ∷ (saying (5 ∷ 3 ∷ 2 ∷ 0 ∷ 0 ∷ 1 ∷ 0 ∷ 0 ∷ 0 ∷ 1 ∷ 0 ∷ 0 ∷ 0 ∷ 0 ∷ 3 ∷ 0 ∷ 0 ∷ 5 ∷ 0 ∷ []) 3 ∷ ending 3 ∷ ending 3 ∷ [])
    ∷ []
unfolding up_from below mem some? every? first? joined symbol_of_kind is_same_symbol has single union meet without first symbol_sets join first_of marked_at_end unmarked first0 meets_ahead grown round same_words settle sets_of_first word_at records state_area production_area loose production_records loose_records names against chain_by chain production_chain symbol_chain item_chain edge_chain symbol_at item_at edge_at or_zero owner_of production_of state_of productions_of meaning same_item is_same_node sets_of prefixes suffixes at_cursor middle symbols spans reductions symbol_words reduction_words example_words cursor_of ahead meets trials enough owner_of_node label_at labels_of passes hands says search found_out found_then plain_find plain_out plain_then plain_run plain_lister
marked_listings = refl

-- the listings end: of three calls the second says so, after the one path that is an example
pub marked-ends :
    ends (path_lister (meaning table_b) shift_b (item 0 1) none (whole ∷ whole ∷ whole ∷ []))
    ∷ ends (path_lister (meaning table_b) reduce_b (item 0 3) (some 1) (whole ∷ whole ∷ whole ∷ []))
    ∷ []
    ≡ true ∷ true ∷ []
unfolding up_from below mem some? every? first? joined symbol_of_kind is_same_symbol has single union meet without first symbol_sets join first_of marked_at_end unmarked first0 meets_ahead grown round same_words settle sets_of_first word_at records state_area production_area loose production_records loose_records names against chain_by chain production_chain symbol_chain item_chain edge_chain symbol_at item_at edge_at or_zero owner_of production_of state_of productions_of meaning same_item is_same_node sets_of prefixes suffixes at_cursor middle symbols spans reductions symbol_words reduction_words example_words cursor_of ahead meets trials enough owner_of_node label_at labels_of passes hands says search found_out found_then plain_find plain_out plain_then plain_run path_lister
marked-ends = refl

pub marked_paths :
    handed (path_lister (meaning table_b) shift_b (item 0 1) none (whole ∷ whole ∷ whole ∷ []))
    ∷ handed (path_lister (meaning table_b) reduce_b (item 0 3) (some 1) (whole ∷ whole ∷ whole ∷ []))
    ∷ []
    ≡ ((0 ∷ 1 ∷ []) ∷ []) ∷ ((0 ∷ 1 ∷ []) ∷ []) ∷ []
unfolding up_from below mem some? every? first? joined symbol_of_kind is_same_symbol has single union meet without first symbol_sets join first_of marked_at_end unmarked first0 meets_ahead grown round same_words settle sets_of_first word_at records state_area production_area loose production_records loose_records names against chain_by chain production_chain symbol_chain item_chain edge_chain symbol_at item_at edge_at or_zero owner_of production_of state_of productions_of meaning same_item is_same_node sets_of prefixes suffixes at_cursor middle symbols spans reductions symbol_words reduction_words example_words cursor_of ahead meets trials enough owner_of_node label_at labels_of passes hands says search found_out found_then plain_find plain_out plain_then plain_run path_lister
marked_paths = refl

-- the two graphs as a caller lends them
abbrev pub shift_words : List ℕ
shift_words = graph_words shift_b ++ replicate 8168 0

abbrev pub reduce_words : List ℕ
reduce_words = graph_words reduce_b ++ replicate 8160 0

pub marked_check : check_of table_b ≡ Accepted
unfolding up_from below mem occurrences first? some? joined word_at records state_area production_area loose production_records loose_records names against chain_by chain production_chain symbol_chain item_chain edge_chain row1 row2 is_nonterminal is_state is_production as_symbol as_item as_edge row3 row4 row5 symbol_is_fit row6 row7 used row8 offends first_row check_of
marked_check = refl

pub marked_asks : asked (meaning table_b) (item 0 1) none shift_words ∷ asked (meaning table_b) (item 0 3) (some 1) reduce_words ∷ [] ≡ true ∷ true ∷ []
unfolding up_from below mem some? every? first? joined symbol_of_kind is_same_symbol first symbol_sets word_at records state_area production_area loose production_records loose_records names against chain_by chain production_chain symbol_chain item_chain edge_chain symbol_at item_at edge_at or_zero owner_of production_of state_of productions_of meaning same_item is_same_node label_of same_symbols same_cursor same_sets is_same_edge node_words edge_words graph_words node_of node_at lent_edge edges_in item_is_fit node_fits edge_is_fit once graph_fits ahead_fits lent_graph_fits asked
marked_asks = refl

pub marked_edges : edges_in shift_words ∷ edges_in reduce_words ∷ [] ≡ shift_b ∷ reduce_b ∷ []
unfolding up_from below joined node_words edge_words graph_words node_of node_at lent_edge edges_in
marked_edges = refl

marked_nodes : is_node_of (at_item (item 0 1)) shift_b ∷ is_node_of (at_item (item 0 3)) reduce_b ∷ [] ≡ true ∷ true ∷ []
unfolding some? same_item is_same_node is_node_of
marked_nodes = refl

-- 8,193 words each
marked-lengths : length shift_words ∷ length reduce_words ∷ [] ≡ graph_room ∷ graph_room ∷ []
unfolding joined node_words edge_words graph_words
marked-lengths = refl

-- so that opening gives both listings
pub ready_shift : Ready table_b (item 0 1) None shift_words
unfolding set_of
ready_shift =
    let e : edges_in shift_words ≡ shift_b = cc marked_edges in
    let n : is_node_of (at_item (item 0 1)) shift_b ≡ true = cc marked_nodes in
    let l : length shift_words ≡ graph_room = cc marked-lengths in
    record { accepted = marked_check; asks = cc marked_asks; long = omega arith; node = ap (is_node_of (at_item (item 0 1))) e ∙ n }

pub ready_reduce : Ready table_b (item 0 3) (Some (record { 0 = 1 })) reduce_words
unfolding set_of
ready_reduce =
    let e : edges_in reduce_words ≡ reduce_b = cc marked_edges in
    let n : is_node_of (at_item (item 0 3)) reduce_b ≡ true = cc marked_nodes in
    let l : length reduce_words ≡ graph_room = cc marked-lengths in
    record { accepted = marked_check; asks = cc marked_asks; long = omega arith; node = ap (is_node_of (at_item (item 0 3))) e ∙ n }

-- the whole list on table B: three calls that are lent what 11 asks
scratch_b : List ℕ
scratch_b = replicate scratch_words 0

lent_b : Lent
lent_b = record { graph = graph_room; scratch = scratch_words; buffer = replicate example_room 0 }

lent_lengths : map (lengths shift_words scratch_b) (lent_b ∷ lent_b ∷ lent_b ∷ []) ≡ whole ∷ whole ∷ whole ∷ []
unfolding lengths scratch_b lent_b
lent_lengths =
    let l : length shift_words ≡ graph_room = cc marked-lengths in
    rw (l, length-replicate {A = ℕ} scratch_words 0, length-replicate {A = ℕ} example_room 0)

handed-B : Handed (meaning table_b) shift_b (item 0 1) none (whole ∷ whole ∷ whole ∷ [])
unfolding set_of
handed-B =
    let e : edges_in shift_words ≡ shift_b = cc marked_edges in
    let D = demand table_b (item 0 1) None shift_words (listing (item 0 1) None 0 true) (opens table_b (item 0 1) None shift_words ready_shift) scratch_b (lent_b ∷ lent_b ∷ lent_b ∷ []) in
    subst (λ (es : List TraceEdge). Handed (meaning table_b) es (item 0 1) none (whole ∷ whole ∷ whole ∷ [])) e
    (subst (λ (ks : List Call). Handed (meaning table_b) (edges_in shift_words) (item 0 1) none ks) lent_lengths D.handed)

-- the listing ends, so the example that it handed out is the only path that there is to hand out
pub marked-only : (p : Path) → IsHanded (meaning table_b) shift_b (item 0 1) none p → p ≡ 0 ∷ 1 ∷ []
marked-only p h =
    let e : ends (path_lister (meaning table_b) shift_b (item 0 1) none (whole ∷ whole ∷ whole ∷ [])) ≡ true = cc marked-ends in
    let q : handed (path_lister (meaning table_b) shift_b (item 0 1) none (whole ∷ whole ∷ whole ∷ [])) ≡ (0 ∷ 1 ∷ []) ∷ [] = cc marked_paths in
    Memᴰ.eq_of_singleton (subst (λ (l : List Path). Memᴰ p l) q ((handed-B.exactly e p).1 h))
