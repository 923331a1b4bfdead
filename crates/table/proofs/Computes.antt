-- The definitions compute: the inputs of refusals 1 to 8 (docs/RULES.md, "Table B").
use mathlib.Core.Path.{◌≡◌, refl}
use mathlib.Core.List.{[], ◌∷◌, map}
use lib.ListN.{set}
use Rattle.lr1_base.specs.repr.Lists.{up_from, below, mem, occurrences, first?, some?, joined}
use Rattle.lr1_base.specs.repr.Listed.{symbol_is_fit}
use Rattle.table.specs.Checked.{Accepted, Refused}
use Rattle.table.specs.Words.{word_at, records, state_area, production_area, loose, production_records, loose_records, names, against, chain_by, chain}
use Rattle.table.specs.Decoded.{production_chain, symbol_chain, item_chain, edge_chain}
use Rattle.table.specs.Refusals.{row1, row2, is_nonterminal, is_state, is_production, as_symbol, as_item, as_edge, row3, row4, row5, row6, row7, used, row8, offends, first_row, check_of}
use Rattle.table.specs.TableB.{table_b}

pub inputs : map check_of (table_b ∷ (0 ∷ 0 ∷ 1 ∷ 0 ∷ []) ∷ set table_b 48 12 ∷ set table_b 24 0 ∷ set table_b 74 4 ∷ [] ∷ (1 ∷ []) ∷ [])
    ≡ Accepted ∷ Refused 2 0 ∷ Refused 3 12 ∷ Refused 4 7 ∷ Refused 7 18 ∷ Refused 1 0 ∷ Refused 1 0 ∷ []
unfolding up_from below mem occurrences first? some? joined word_at records state_area production_area loose production_records loose_records names against chain_by chain production_chain symbol_chain item_chain edge_chain row1 row2 is_nonterminal is_state is_production as_symbol as_item as_edge row3 row4 row5 symbol_is_fit row6 row7 used row8 offends first_row check_of
inputs = refl
