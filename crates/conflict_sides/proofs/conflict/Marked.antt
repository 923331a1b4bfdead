-- The marked examples (docs/RULES.md, "Table B"), shown of the definitions that the contracts cite: one statement over one list.
use Rattle.std.proofs.Common.{◌≡◌, ℕ, Bool, true, false, List, [], ◌∷◌, ◌++◌, map, length, replicate, refl}
use mathlib.Core.Option.{none, some}
use Rattle.lr1_base.specs.repr.Sizes.{graph_room, scratch_words, classify_scratch, example_room}
use Rattle.lr1_base.specs.words.Same.{same_words}
use Rattle.lr1_base.specs.words.Lent.{in_front, zeroed}
use Rattle.lr1_base.specs.repr.Lists.{up_from, below, mem, occurrences, keep, some?, every?, first?, joined}
use Rattle.lr1_base.specs.repr.Meaning.{Symbol, nonterminal, terminal, is_same_symbol, Item, Table}
use Rattle.lr1_base.specs.repr.Listed.{symbol_of_kind, symbol_is_fit}
use Rattle.lr1_base.specs.lookahead.Tokens.{has, single, union, meet, without, members}
use Rattle.lr1_base.specs.item.Items.{first, symbol_sets, is_nonterminal, shifts_nonterminal}
use Rattle.table.specs.Checked.{Checked, Accepted, Refused as NotAccepted}
use Rattle.table.specs.Words.{word_at, records, state_area, production_area, loose, production_records, loose_records, names, against, chain_by, chain}
use Rattle.table.specs.Decoded.{production_chain, symbol_chain, item_chain, edge_chain, symbol_at, item_at, edge_at, or_zero, owner_of as owner_in, production_of, state_of, productions_of, meaning}
use Rattle.table.specs.Refusals.{row1, row2, is_nonterminal as nonterminal_record, is_state, is_production, as_symbol, as_item, as_edge, row3, row4, row5, row6, row7, used, row8, offends, first_row, check_of}
use Rattle.table.specs.TableB.{table_b}
use Rattle.first.specs.declared.Answer.{Answer}
use Rattle.first.specs.First.{join, first_of, marked_at_end, unmarked, first0, meets_ahead, disjoint, grown, round, settle, sets_of_first, FIRST, nullable}
use Rattle.state_graph.specs.Walk.{leads, predecessors, walked_back, traced_back}
use Rattle.trace_graph.specs.Graph.{at_item, same_item, is_same_node, TraceEdge, label_of, same_cursor, same_sets, is_same_edge, add, is_node_of, same_symbols}
use Rattle.trace_graph.specs.Words.{node_words, edge_words, graph_words, node_of, node_at, edge_at as lent_edge, edges_in}
use Rattle.trace_graph.specs.Fits.{item_is_fit, node_fits, edge_is_fit, once, graph_fits}
use Rattle.trace.specs.Traced.{untraced, pair, enter, add_to, owner_of, symbols_of, can_shift, prefix_of, suffix_of, in_turn}
use Rattle.trace.specs.Shift.{epsilon_item, epsilon, shift_trace, shift_edges}
use Rattle.trace.specs.Reduce.{reduce_state_item, item_of_reduce, state_of_reduce, reduce_trace, reduce_edges}
use Rattle.enumerator.specs.example.Example.{sets_of, prefixes, suffixes, at_cursor, middle, symbols, spans, reductions, symbol_words, reduction_words, example_words, cursor_of, ahead, meets}
use Rattle.enumerator.specs.trials.Trials.{trials}
use Rattle.enumerator.specs.trials.Lister.{Call, enough, owner_of_node, label_at, labels_of, passes, hands, says, search, example, end, Out, found_out, found_then, plain_find, plain_out, plain_then, plain_run, plain_lister}
use Rattle.conflict_sides.specs.declared.conflict.Conflict.{Conflict}
use Rattle.conflict_sides.specs.conflict.Numbers.{number_of_class, values_of_class, Reading, classed}
use Rattle.conflict_sides.specs.conflict.Items.{symbol_before, are_symbols_before, is_production_before, placed, in_order, production_order, cursor_items, all_items, is_terminal, shifts_token, shift_items}
use Rattle.conflict_sides.specs.conflict.Sides.{listing_side, with_more, examples_in, shift_side_from, shift_side, item_of_reduce as item_at_end, reduce_side, action_side_of, both_sides, gather}
use Rattle.conflict_sides.specs.conflict.Sorted.{inserted, sorted_from, sorted_by, product, first_fit}
use Rattle.conflict_sides.specs.conflict.Judge.{with_both, symbol_count, cursor_at, reduction_at, same_example_symbol, same_example_symbols, is_same_reading, is_operator_of, ambiguity_of_shift, ambiguity_of_reduce, ambiguity_of, optional, optional_of, question_of, suggest_question, between, shift_upcoming, reduce_upcoming, diverge, inlines, inline_or, question_or, unambiguous, ambiguous_or, judge, judged}
use Rattle.conflict_sides.specs.conflict.Outcome.{Outcome, outcome, operand_fits, place_is_fit, conflict_fits, shifts_end, shown, judged_with, gathered_with, classify_in_with, classify_by_with, classify_of, classify_with}
use Rattle.conflict_sides.specs.conflict.Observed.{is_whole_example, before_cursor, observed_of}

-- an entry of the list: numbers; tokens with yes or no; tests; a lister's answers; what classifying answers and leaves
pub data Entry : Type 0 where
  numbers : List ℕ → Entry
  answer : List ℕ → Bool → Entry
  tests : List Bool → Entry
  listing : List Out → Entry
  classifying : Outcome → Entry

abbrev answered : Answer → Entry
answered a = answer (members a.tokens.0) a.nullable

-- accepted is 0, a refusal its number and place
unfoldable pub checked : Checked → List ℕ
checked Accepted = 0 ∷ []
checked (NotAccepted n r) = n ∷ r ∷ []

-- E and + of table B
abbrev E : Symbol
E = nonterminal 0

abbrev plus : Symbol
plus = terminal 0

abbrev item : ℕ → ℕ → Item
item p i = record { production = p; index = i }

abbrev whole : Call
whole = record { graph = graph_room; scratch = scratch_words; buffer = example_room }

abbrev saying : List ℕ → ℕ → Out
saying ws n = record { answer = example ws; count = n }

abbrev ending : ℕ → Out
ending n = record { answer = end; count = n }

abbrev conflict : ℕ → ℕ → ℕ → ℕ → ℕ → Conflict
conflict s p a o k = record { state = record { 0 = s }; production = record { 0 = p }; action = a; operand = o; token = k }

-- the traced edges of E = E (*) + E and of E = E + E (*) in state 3
unfoldable pub shift_b : Table → List TraceEdge
shift_b B = shift_edges B 3 (item 0 1)

unfoldable pub reduce_b : Table → List TraceEdge
reduce_b B = reduce_edges B 3 (item 0 3)

-- lent lists of the lengths that 11 asks, scratch one word longer
abbrev scratch : List ℕ
scratch = replicate 8001 7

abbrev buffer : List ℕ
buffer = replicate example_room 7

unfoldable pub classified : Conflict → Entry
classified c = classifying (classify_of table_b c scratch buffer buffer)

-- lines a and r of docs/RULES.md, "Table B": 5 3 0/0 1/0 0/0 1/0 0/0, then 2-5/0 0-5/0 and 0-3/0 0-5/0
abbrev line_a : List ℕ
line_a = 5 ∷ 3 ∷ 2 ∷ 0 ∷ 0 ∷ 1 ∷ 0 ∷ 0 ∷ 0 ∷ 1 ∷ 0 ∷ 0 ∷ 0 ∷ 2 ∷ 5 ∷ 0 ∷ 0 ∷ 5 ∷ 0 ∷ []

abbrev line_r : List ℕ
line_r = 5 ∷ 3 ∷ 2 ∷ 0 ∷ 0 ∷ 1 ∷ 0 ∷ 0 ∷ 0 ∷ 1 ∷ 0 ∷ 0 ∷ 0 ∷ 0 ∷ 3 ∷ 0 ∷ 0 ∷ 5 ∷ 0 ∷ []

-- B accepted; `first0` of nothing and of E; back from 3 over E + E and over nothing, from 0 over E;
-- the graphs of B pass the check of a lent graph, and their start items are nodes; the two listings, each of three calls;
-- 3 0 0 0 0, 3 0 0 1 0, 3 0 0 0 1, 3 0 1 1 2, 3 0 1 0 0; the observed part
unfoldable pub asked : Table → List Entry
asked B =
    numbers (checked (check_of table_b))
    ∷ answered (FIRST B []) ∷ answered (FIRST B (E ∷ []))
    ∷ numbers (traced_back B 3 (E ∷ plus ∷ E ∷ [])) ∷ numbers (traced_back B 3 []) ∷ numbers (traced_back B 0 (E ∷ []))
    ∷ tests (map (λ es. graph_fits (length B.nonterminals) B.productions (graph_words es)) (shift_b B ∷ reduce_b B ∷ []))
    ∷ tests (is_node_of (at_item (item 0 1)) (shift_b B) ∷ is_node_of (at_item (item 0 3)) (reduce_b B) ∷ [])
    ∷ listing (plain_lister B (shift_b B) (item 0 1) none (whole ∷ whole ∷ whole ∷ []))
    ∷ listing (plain_lister B (reduce_b B) (item 0 3) (some (single 0)) (whole ∷ whole ∷ whole ∷ []))
    ∷ classified (conflict 3 0 0 0 0) ∷ classified (conflict 3 0 0 1 0) ∷ classified (conflict 3 0 0 0 1)
    ∷ classified (conflict 3 0 1 1 2) ∷ classified (conflict 3 0 1 0 0)
    ∷ numbers (observed_of line_a line_r)
    ∷ []

-- the first 8,000 words of scratch zero
abbrev leaves : Reading → List ℕ → List ℕ → Entry
leaves r a b = classifying (outcome r (replicate classify_scratch 0 ++ 7 ∷ []) a b)

-- an example of 19 words at the front of its buffer
abbrev written : List ℕ → List ℕ
written ws = ws ++ replicate 1139 7

pub marked : asked (meaning table_b) ≡
    numbers (0 ∷ [])
    ∷ answer [] true ∷ answer (1 ∷ []) false
    ∷ numbers (0 ∷ 2 ∷ []) ∷ numbers (3 ∷ []) ∷ numbers []
    ∷ tests (true ∷ true ∷ []) ∷ tests (true ∷ true ∷ [])
    ∷ listing (saying line_a 3 ∷ ending 3 ∷ ending 3 ∷ []) ∷ listing (saying line_r 3 ∷ ending 3 ∷ ending 3 ∷ [])
    ∷ leaves (classed 2 (0 ∷ []) 3 3) (written line_a) (written line_r)
    ∷ leaves (classed 1 [] 3 3) (written line_a) (written line_r)
    ∷ leaves (classed 0 [] 0 3) buffer buffer
    ∷ leaves (classed 0 [] 1 3) buffer buffer
    ∷ leaves (classed 5 (0 ∷ 9 ∷ 0 ∷ 9 ∷ []) 3 3) (written line_r) buffer
    ∷ numbers (0 ∷ 0 ∷ 1 ∷ 0 ∷ 0 ∷ 0 ∷ [])
    ∷ []
unfolding checked shift_b reduce_b classified asked up_from below mem occurrences keep some? every? first? joined is_same_symbol symbol_of_kind symbol_is_fit has single union meet without members first symbol_sets is_nonterminal shifts_nonterminal word_at records state_area production_area loose production_records loose_records names against chain_by chain production_chain symbol_chain item_chain edge_chain symbol_at item_at edge_at or_zero owner_in production_of state_of productions_of meaning row1 row2 nonterminal_record is_state is_production as_symbol as_item as_edge row3 row4 row5 row6 row7 used row8 offends first_row check_of join first_of marked_at_end unmarked first0 meets_ahead disjoint grown round same_words settle sets_of_first FIRST nullable leads predecessors walked_back traced_back same_item is_same_node label_of same_cursor same_sets is_same_edge add is_node_of node_words edge_words graph_words node_of node_at lent_edge edges_in item_is_fit node_fits edge_is_fit once graph_fits untraced pair enter add_to owner_of symbols_of can_shift prefix_of suffix_of in_turn epsilon_item epsilon shift_trace shift_edges reduce_state_item item_of_reduce state_of_reduce reduce_trace reduce_edges sets_of prefixes suffixes at_cursor middle symbols spans reductions symbol_words reduction_words example_words cursor_of ahead meets trials enough owner_of_node label_at labels_of passes hands says search found_out found_then plain_find plain_out plain_then plain_run plain_lister number_of_class values_of_class symbol_before are_symbols_before is_production_before placed in_order production_order cursor_items all_items is_terminal shifts_token shift_items listing_side with_more examples_in shift_side_from shift_side item_at_end reduce_side action_side_of both_sides gather inserted sorted_from sorted_by product first_fit with_both symbol_count cursor_at reduction_at same_example_symbol same_example_symbols is_same_reading same_symbols is_operator_of ambiguity_of_shift ambiguity_of_reduce ambiguity_of optional optional_of question_of suggest_question between shift_upcoming reduce_upcoming diverge inlines inline_or question_or unambiguous ambiguous_or judge judged in_front zeroed operand_fits place_is_fit conflict_fits shifts_end shown judged_with gathered_with classify_in_with classify_by_with classify_with is_whole_example before_cursor observed_of
marked = refl
