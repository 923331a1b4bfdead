-- The definitions compute: table B with two unreached records put in, 12 and 18 of 26, is compacted to table B and two records of 0.
use mathlib.Core.Path.{◌≡◌, refl}
use mathlib.Core.List.{List, [], ◌∷◌, ◌++◌}
use Prim.Native.Nat.{ℕ}
use Rattle.lr1_base.specs.repr.Reply.{answered}
use Rattle.lr1_base.specs.repr.Lists.{up_from, below, mem, occurrences, first?, some?, keep, joined}
use Rattle.lr1_base.specs.repr.Listed.{symbol_is_fit}
use Rattle.table.specs.Words.{word_at, records, state_area, production_area, loose, production_records, loose_records, names, against, chain_by, chain}
use Rattle.table.specs.Decoded.{production_chain, symbol_chain, item_chain, edge_chain}
use Rattle.table.specs.Refusals.{row1, row2, is_nonterminal, is_state, is_production, as_symbol, as_item, as_edge, row3, row4, row5, row6, row7, used, row8, offends, first_row, check_of}
use Rattle.table.specs.TableB.{table_b}
use Rattle.table.specs.Quads.{words}
use Rattle.table_rewrite.specs.compaction.Compaction.{reached, rank_of, rank, moved, kept, count_of, area_quad, loose_quad, compact_quad, compacted_to, compacted}
use Rattle.table_rewrite.specs.compaction.Outcome.{compact_of}

-- table B, its loose records 9 to 23 moved to 9 to 11, 13 to 17, 19 to 25; records 12 and 18 hold words that no chain reaches
abbrev pub gapped : List ℕ
gapped =
    1 ∷ 2 ∷ 4 ∷ 2 ∷ 6 ∷ 0 ∷ 0 ∷ 0 ∷ 13 ∷ 22 ∷ 0 ∷ 0 ∷ 15 ∷ 23 ∷ 0 ∷ 0 ∷ 16 ∷ 24 ∷ 0 ∷ 0 ∷ 20 ∷ 25 ∷ 0 ∷ 0 ∷ 7 ∷ 8
    ∷ 0 ∷ 9 ∷ 0 ∷ 11 ∷ 12 ∷ 13 ∷ 9 ∷ 0 ∷ 0 ∷ 0 ∷ 10 ∷ 1 ∷ 0 ∷ 0 ∷ 0 ∷ 0 ∷ 0 ∷ 0 ∷ 0 ∷ 1 ∷ 1 ∷ 0 ∷ 13 ∷ 1 ∷ 7 ∷ 9
    ∷ 14 ∷ 0 ∷ 0 ∷ 0 ∷ 0 ∷ 1 ∷ 0 ∷ 0 ∷ 0 ∷ 0 ∷ 1 ∷ 0 ∷ 17 ∷ 0 ∷ 2 ∷ 0 ∷ 19 ∷ 0 ∷ 0 ∷ 0 ∷ 5 ∷ 5 ∷ 5 ∷ 5 ∷ 0 ∷ 1
    ∷ 0 ∷ 0 ∷ 21 ∷ 0 ∷ 3 ∷ 0 ∷ 0 ∷ 0 ∷ 1 ∷ 0 ∷ 0 ∷ 0 ∷ 0 ∷ 1 ∷ 0 ∷ 1 ∷ 0 ∷ 2 ∷ 0 ∷ 0 ∷ 0 ∷ 3 ∷ 0 ∷ 1 ∷ 0 ∷ 2 ∷ []

pub table_b_lem : compact_of gapped ≡ record { answer = answered 24; table = table_b ++ 0 ∷ 0 ∷ 0 ∷ 0 ∷ 0 ∷ 0 ∷ 0 ∷ 0 ∷ [] }
unfolding up_from below mem occurrences first? some? keep joined word_at records state_area production_area loose production_records loose_records names against chain_by chain production_chain symbol_chain item_chain edge_chain row1 row2 is_nonterminal is_state is_production as_symbol as_item as_edge row3 row4 row5 symbol_is_fit row6 row7 used row8 offends first_row check_of words reached rank_of rank moved kept count_of area_quad loose_quad compact_quad compacted_to compacted compact_of
table_b_lem = refl

pub table_b_again : compact_of table_b ≡ record { answer = answered 24; table = table_b }
unfolding up_from below mem occurrences first? some? keep joined word_at records state_area production_area loose production_records loose_records names against chain_by chain production_chain symbol_chain item_chain edge_chain row1 row2 is_nonterminal is_state is_production as_symbol as_item as_edge row3 row4 row5 symbol_is_fit row6 row7 used row8 offends first_row check_of words reached rank_of rank moved kept count_of area_quad loose_quad compact_quad compacted_to compacted compact_of
table_b_again = refl
