-- The definitions compute: table B is its own spelling.
use mathlib.Core.Path.{◌≡◌, refl}
use Rattle.lr1_base.specs.repr.Lists.{up_from, below, mem, first?, keep}
use Rattle.lr1_base.specs.repr.Listed.{symbol_of_kind}
use Rattle.table.specs.Words.{word_at, records, state_area, production_area, loose, production_records, loose_records, names, against, chain_by, chain}
use Rattle.table.specs.Decoded.{production_chain, symbol_chain, item_chain, edge_chain, symbol_at, item_at, edge_at, or_zero, owner_of, production_of, state_of, productions_of, meaning}
use Rattle.table.specs.TableB.{table_b}
use Rattle.table.specs.Quads.{words}
use Rattle.table_rewrite.specs.spelling.Spelled.{head_of, chain_from, chains_from, place_of, size_of, kind_of, number_of, states_at, productions_at, symbols_at, items_place, edges_at, owns, record_or, next_owned_from, nonterminal_quad, state_quad, production_quad, count_quad, nonterminal_quads, state_quads, production_quads, symbol_quads, item_quads, edge_quads, quads, spell}

pub table_b_lem : spell (meaning table_b) ≡ table_b
unfolding up_from below mem first? keep symbol_of_kind word_at records state_area production_area loose production_records loose_records names against chain_by chain production_chain symbol_chain item_chain edge_chain symbol_at item_at edge_at or_zero owner_of production_of state_of productions_of meaning words head_of chain_from chains_from place_of size_of kind_of number_of states_at productions_at symbols_at items_place edges_at owns record_or next_owned_from nonterminal_quad state_quad production_quad count_quad nonterminal_quads state_quads production_quads symbol_quads item_quads edge_quads quads spell
table_b_lem = refl
