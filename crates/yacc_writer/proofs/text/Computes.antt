-- Tables written by the definition.
use mathlib.Core.Path.{◌≡◌, refl}
use Prim.Native.Nat.{ℕ}
use mathlib.Core.List.{List, [], ◌∷◌, map}
use Rattle.lr1_base.specs.repr.Reply.{answered, refused}
use Rattle.lr1_base.specs.words.Lent.{in_front}
use Rattle.lr1_base.specs.repr.Lists.{up_from, below, mem, occurrences, first?, keep, some?, joined}
use Rattle.lr1_base.specs.repr.Listed.{symbol_of_kind, symbol_is_fit}
use Rattle.table.specs.Words.{word_at, records, state_area, production_area, loose, production_records, loose_records, names, against, chain_by, chain}
use Rattle.table.specs.Decoded.{production_chain, symbol_chain, item_chain, edge_chain, symbol_at, item_at, edge_at, or_zero, owner_of, production_of, state_of, productions_of, meaning}
use Rattle.table.specs.Refusals.{row1, row2, is_nonterminal, is_state, is_production, as_symbol, as_item, as_edge, row3, row4, row5, row6, row7, used, row8, offends, first_row, check_of}
use Rattle.lr1_base.specs.numerals.Numeral.{numeral_by, numeral}
use Rattle.yacc_syntax.specs.text.Grammar.{spell_id, spell_token, spell_piece, spell_all}
use Rattle.yacc_writer.specs.text.Text.{ascending, name_of, token_line, production_line, lines, spaced, line, pieces_of, text_of}
use Rattle.yacc_writer.specs.text.Outcome.{written_of, write_of}

pub record Call : Type 0 where
  pub table : List ℕ
  pub text : List ℕ

-- the dangling else, with bytes behind it; a table without terminals, into just enough bytes
pub tables-written : map (λ (c : Call). write_of c.table c.text) (
    record { table = (1 ∷ 5 ∷ 1 ∷ 3 ∷ 3 ∷ 0 ∷ 0 ∷ 0 ∷ 0 ∷ 0 ∷ 0 ∷ 0 ∷ 4 ∷ 6 ∷ 31 ∷ 42 ∷ 5 ∷ 10 ∷ 47 ∷ 65 ∷ 0 ∷ 16 ∷ 70 ∷ 71 ∷ 7 ∷ 1 ∷ 0 ∷ 0 ∷ 8 ∷ 1 ∷ 3 ∷ 0 ∷ 9 ∷ 1 ∷ 1 ∷ 0 ∷ 0 ∷ 0 ∷ 0 ∷ 0 ∷ 11 ∷ 1 ∷ 0 ∷ 0 ∷ 12 ∷ 1 ∷ 3 ∷ 0 ∷ 13 ∷ 1 ∷ 1 ∷ 0 ∷ 14 ∷ 0 ∷ 0 ∷ 0 ∷ 15 ∷ 1 ∷ 2 ∷ 0 ∷ 0 ∷ 0 ∷ 0 ∷ 0 ∷ 0 ∷ 1 ∷ 4 ∷ 0 ∷ []); text = (7 ∷ 7 ∷ 7 ∷ 7 ∷ 7 ∷ 7 ∷ 7 ∷ 7 ∷ 7 ∷ 7 ∷ 7 ∷ 7 ∷ 7 ∷ 7 ∷ 7 ∷ 7 ∷ 7 ∷ 7 ∷ 7 ∷ 7 ∷ 7 ∷ 7 ∷ 7 ∷ 7 ∷ 7 ∷ 7 ∷ 7 ∷ 7 ∷ 7 ∷ 7 ∷ 7 ∷ 7 ∷ 7 ∷ 7 ∷ 7 ∷ 7 ∷ 7 ∷ 7 ∷ 7 ∷ 7 ∷ 7 ∷ 7 ∷ 7 ∷ 7 ∷ 7 ∷ 7 ∷ 7 ∷ 7 ∷ 7 ∷ 7 ∷ 7 ∷ 7 ∷ 7 ∷ 7 ∷ 7 ∷ 7 ∷ 7 ∷ 7 ∷ 7 ∷ 7 ∷ 7 ∷ 7 ∷ 7 ∷ 7 ∷ 7 ∷ 7 ∷ 7 ∷ 7 ∷ 7 ∷ 7 ∷ 7 ∷ 7 ∷ 7 ∷ 7 ∷ 7 ∷ 7 ∷ 7 ∷ 7 ∷ 7 ∷ 7 ∷ 7 ∷ 7 ∷ 7 ∷ 7 ∷ 7 ∷ 7 ∷ 7 ∷ 7 ∷ 7 ∷ 7 ∷ []) } ∷
    record { table = (2 ∷ 0 ∷ 1 ∷ 3 ∷ 4 ∷ 0 ∷ 0 ∷ 0 ∷ 5 ∷ 0 ∷ 0 ∷ 0 ∷ 0 ∷ 0 ∷ 0 ∷ 0 ∷ 0 ∷ 7 ∷ 4 ∷ 5 ∷ 6 ∷ 0 ∷ 8 ∷ 8 ∷ 0 ∷ 8 ∷ 9 ∷ 10 ∷ 0 ∷ 0 ∷ 1 ∷ 0 ∷ 0 ∷ 0 ∷ 0 ∷ 0 ∷ []); text = (7 ∷ 7 ∷ 7 ∷ 7 ∷ 7 ∷ 7 ∷ 7 ∷ 7 ∷ 7 ∷ 7 ∷ 7 ∷ 7 ∷ 7 ∷ 7 ∷ 7 ∷ 7 ∷ 7 ∷ 7 ∷ 7 ∷ 7 ∷ 7 ∷ 7 ∷ 7 ∷ 7 ∷ 7 ∷ 7 ∷ 7 ∷ 7 ∷ 7 ∷ 7 ∷ []) } ∷
    []) ≡ (
    record { answer = answered 79; text = (37 ∷ 116 ∷ 111 ∷ 107 ∷ 101 ∷ 110 ∷ 32 ∷ 84 ∷ 48 ∷ 32 ∷ 84 ∷ 49 ∷ 32 ∷ 84 ∷ 50 ∷ 32 ∷ 84 ∷ 51 ∷ 32 ∷ 84 ∷ 52 ∷ 10 ∷ 37 ∷ 37 ∷ 10 ∷ 78 ∷ 48 ∷ 32 ∷ 58 ∷ 32 ∷ 84 ∷ 48 ∷ 32 ∷ 84 ∷ 51 ∷ 32 ∷ 84 ∷ 49 ∷ 32 ∷ 78 ∷ 48 ∷ 32 ∷ 59 ∷ 10 ∷ 78 ∷ 48 ∷ 32 ∷ 58 ∷ 32 ∷ 84 ∷ 48 ∷ 32 ∷ 84 ∷ 51 ∷ 32 ∷ 84 ∷ 49 ∷ 32 ∷ 78 ∷ 48 ∷ 32 ∷ 84 ∷ 50 ∷ 32 ∷ 78 ∷ 48 ∷ 32 ∷ 59 ∷ 10 ∷ 78 ∷ 48 ∷ 32 ∷ 58 ∷ 32 ∷ 84 ∷ 52 ∷ 32 ∷ 59 ∷ 10 ∷ 7 ∷ 7 ∷ 7 ∷ 7 ∷ 7 ∷ 7 ∷ 7 ∷ 7 ∷ 7 ∷ 7 ∷ 7 ∷ []) } ∷
    record { answer = answered 30; text = (37 ∷ 37 ∷ 10 ∷ 78 ∷ 48 ∷ 32 ∷ 58 ∷ 32 ∷ 78 ∷ 49 ∷ 32 ∷ 59 ∷ 10 ∷ 78 ∷ 49 ∷ 32 ∷ 58 ∷ 32 ∷ 59 ∷ 10 ∷ 78 ∷ 49 ∷ 32 ∷ 58 ∷ 32 ∷ 78 ∷ 48 ∷ 32 ∷ 59 ∷ 10 ∷ []) } ∷
    [])
unfolding in_front up_from below mem occurrences first? keep some? joined symbol_of_kind symbol_is_fit word_at records state_area production_area loose production_records loose_records names against chain_by chain production_chain symbol_chain item_chain edge_chain symbol_at item_at edge_at or_zero owner_of production_of state_of productions_of meaning row1 row2 is_nonterminal is_state is_production as_symbol as_item as_edge row3 row4 row5 row6 row7 used row8 offends first_row check_of numeral_by numeral spell_id spell_token spell_piece spell_all ascending name_of token_line production_line lines spaced line pieces_of text_of written_of write_of
tables-written = refl

-- 17, a byte short; 23, a nonterminal without productions; 23, first productions that descend
pub tables-refused : map (λ (c : Call). write_of c.table c.text) (
    record { table = (2 ∷ 0 ∷ 1 ∷ 3 ∷ 4 ∷ 0 ∷ 0 ∷ 0 ∷ 5 ∷ 0 ∷ 0 ∷ 0 ∷ 0 ∷ 0 ∷ 0 ∷ 0 ∷ 0 ∷ 7 ∷ 4 ∷ 5 ∷ 6 ∷ 0 ∷ 8 ∷ 8 ∷ 0 ∷ 8 ∷ 9 ∷ 10 ∷ 0 ∷ 0 ∷ 1 ∷ 0 ∷ 0 ∷ 0 ∷ 0 ∷ 0 ∷ []); text = (7 ∷ 7 ∷ 7 ∷ 7 ∷ 7 ∷ 7 ∷ 7 ∷ 7 ∷ 7 ∷ 7 ∷ 7 ∷ 7 ∷ 7 ∷ 7 ∷ 7 ∷ 7 ∷ 7 ∷ 7 ∷ 7 ∷ 7 ∷ 7 ∷ 7 ∷ 7 ∷ 7 ∷ 7 ∷ 7 ∷ 7 ∷ 7 ∷ 7 ∷ []) } ∷
    record { table = (1 ∷ 0 ∷ 1 ∷ 0 ∷ 0 ∷ 0 ∷ 0 ∷ 0 ∷ 0 ∷ 0 ∷ 0 ∷ 0 ∷ []); text = (7 ∷ 7 ∷ 7 ∷ 7 ∷ 7 ∷ 7 ∷ 7 ∷ 7 ∷ 7 ∷ []) } ∷
    record { table = (2 ∷ 0 ∷ 1 ∷ 2 ∷ 5 ∷ 0 ∷ 0 ∷ 0 ∷ 4 ∷ 0 ∷ 0 ∷ 0 ∷ 0 ∷ 0 ∷ 0 ∷ 0 ∷ 0 ∷ 0 ∷ 0 ∷ 0 ∷ 0 ∷ 0 ∷ 0 ∷ 0 ∷ []); text = (7 ∷ 7 ∷ 7 ∷ 7 ∷ 7 ∷ 7 ∷ 7 ∷ 7 ∷ 7 ∷ 7 ∷ 7 ∷ 7 ∷ 7 ∷ 7 ∷ 7 ∷ 7 ∷ 7 ∷ 7 ∷ 7 ∷ 7 ∷ 7 ∷ 7 ∷ 7 ∷ 7 ∷ 7 ∷ 7 ∷ 7 ∷ 7 ∷ 7 ∷ 7 ∷ 7 ∷ 7 ∷ 7 ∷ 7 ∷ 7 ∷ 7 ∷ 7 ∷ 7 ∷ 7 ∷ 7 ∷ []) } ∷
    []) ≡ (
    record { answer = refused 17 0; text = (7 ∷ 7 ∷ 7 ∷ 7 ∷ 7 ∷ 7 ∷ 7 ∷ 7 ∷ 7 ∷ 7 ∷ 7 ∷ 7 ∷ 7 ∷ 7 ∷ 7 ∷ 7 ∷ 7 ∷ 7 ∷ 7 ∷ 7 ∷ 7 ∷ 7 ∷ 7 ∷ 7 ∷ 7 ∷ 7 ∷ 7 ∷ 7 ∷ 7 ∷ []) } ∷
    record { answer = refused 23 0; text = (7 ∷ 7 ∷ 7 ∷ 7 ∷ 7 ∷ 7 ∷ 7 ∷ 7 ∷ 7 ∷ []) } ∷
    record { answer = refused 23 0; text = (7 ∷ 7 ∷ 7 ∷ 7 ∷ 7 ∷ 7 ∷ 7 ∷ 7 ∷ 7 ∷ 7 ∷ 7 ∷ 7 ∷ 7 ∷ 7 ∷ 7 ∷ 7 ∷ 7 ∷ 7 ∷ 7 ∷ 7 ∷ 7 ∷ 7 ∷ 7 ∷ 7 ∷ 7 ∷ 7 ∷ 7 ∷ 7 ∷ 7 ∷ 7 ∷ 7 ∷ 7 ∷ 7 ∷ 7 ∷ 7 ∷ 7 ∷ 7 ∷ 7 ∷ 7 ∷ 7 ∷ []) } ∷
    [])
unfolding in_front up_from below mem occurrences first? keep some? joined symbol_of_kind symbol_is_fit word_at records state_area production_area loose production_records loose_records names against chain_by chain production_chain symbol_chain item_chain edge_chain symbol_at item_at edge_at or_zero owner_of production_of state_of productions_of meaning row1 row2 is_nonterminal is_state is_production as_symbol as_item as_edge row3 row4 row5 row6 row7 used row8 offends first_row check_of numeral_by numeral spell_id spell_token spell_piece spell_all ascending name_of token_line production_line lines spaced line pieces_of text_of written_of write_of
tables-refused = refl
