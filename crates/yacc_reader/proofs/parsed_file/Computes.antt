-- Texts read by the definition: the marked ones, and one for each refusal.
use mathlib.Core.Path.{◌≡◌, refl}
use Prim.Native.Nat.{ℕ}
use mathlib.Core.List.{List, [], ◌∷◌, map}
use Rattle.lr1_base.specs.repr.Reply.{refused}
use Rattle.lr1_base.specs.words.Same.{same_words}
use Rattle.lr1_base.specs.words.Lent.{in_front}
use Rattle.lr1_base.specs.repr.Lists.{up_from, below, first?, keep, some?, joined}
use Rattle.table.specs.Quads.{words}
use Rattle.table_rewrite.specs.spelling.Spelled.{head_of, chain_from, chains_from, place_of, size_of, kind_of as kind_of_symbol, number_of, states_at, productions_at, symbols_at, items_place, edges_at, records_of, owns, record_or, next_owned_from, nonterminal_quad, state_quad, production_quad, count_quad, nonterminal_quads, state_quads, production_quads, symbol_quads, item_quads, edge_quads, quads, spell}
use Rattle.yacc_syntax.specs.text.Grammar.{is_white_byte, is_letter_byte, kind_of, goes_on_byte, no_start, one_start, spell_id, spell_token, spell_piece, tokens_in, slash_next, closes, literal_byte, stops}
use Rattle.yacc_syntax.specs.text.Lex.{rest, run_of, past_run, strip, literal_if, next_literal, word_if, start_or, token_or, mark_or, longer, in_comment, comment_or, next_of, next, before, after, lex_steps, lex}
use Rattle.yacc_syntax.specs.text.Parse.{left_side as left_side_of, marked, declared, begun, step, run, whole, file_of, laid, parsed, parse}
use Rattle.yacc_syntax.specs.text.Places.{width_of, placed}
use Rattle.yacc_syntax.specs.text.Forward.{begins, sides, move}
use Rattle.yacc_reader.specs.parsed_file.Events.{event_of, events}
use Rattle.yacc_reader.specs.parsed_file.Source.{same_id, is_known, number_in, enter, entered, left_side, literal_use, token_use, start_use, span_start, span_end, alternative, alternatives_from, source_of}
use Rattle.yacc_reader.specs.parsed_file.Meaning.{symbol_of, production_of, productions_of, owned, table_of, places_of, start_of}
use Rattle.yacc_reader.specs.parsed_file.Outcome.{unchanged, nowhere, undefined_use, named_both_ways, undefined_start, misnamed, too_many, too_long, room, answer_of, fitted_of, counted_of, named_of, source_in, parsed_of, read_of, read_as}
use Rattle.lr1_base.specs.numerals.Numeral.{is_digit_byte}

pub record Call : Type 0 where
  pub text : List ℕ
  pub table : List ℕ
  pub places : List ℕ

-- the dangling else: `%token IF THEN ELSE E S %% s : IF E THEN s   | IF E THEN s ELSE s   | S   ; `
-- a start, rules of one left side apart, an empty body, a literal beside a name with its letter, a token declared twice: `%start b %token a a %% c : b 'a' | ; b : a ; c : 'a' /* twice */ 'a' ;`
-- the least text, into buffers that are just long enough: `%%x:;`
pub texts_read : map (λ (c : Call). read_of c.text c.table c.places) (
    record { text = (37 ∷ 116 ∷ 111 ∷ 107 ∷ 101 ∷ 110 ∷ 32 ∷ 73 ∷ 70 ∷ 32 ∷ 84 ∷ 72 ∷ 69 ∷ 78 ∷ 32 ∷ 69 ∷ 76 ∷ 83 ∷ 69 ∷ 32 ∷ 69 ∷ 32 ∷ 83 ∷ 10 ∷ 37 ∷ 37 ∷ 10 ∷ 115 ∷ 32 ∷ 58 ∷ 32 ∷ 73 ∷ 70 ∷ 32 ∷ 69 ∷ 32 ∷ 84 ∷ 72 ∷ 69 ∷ 78 ∷ 32 ∷ 115 ∷ 10 ∷ 32 ∷ 32 ∷ 124 ∷ 32 ∷ 73 ∷ 70 ∷ 32 ∷ 69 ∷ 32 ∷ 84 ∷ 72 ∷ 69 ∷ 78 ∷ 32 ∷ 115 ∷ 32 ∷ 69 ∷ 76 ∷ 83 ∷ 69 ∷ 32 ∷ 115 ∷ 10 ∷ 32 ∷ 32 ∷ 124 ∷ 32 ∷ 83 ∷ 10 ∷ 32 ∷ 32 ∷ 59 ∷ 10 ∷ []); table = (7 ∷ 7 ∷ 7 ∷ 7 ∷ 7 ∷ 7 ∷ 7 ∷ 7 ∷ 7 ∷ 7 ∷ 7 ∷ 7 ∷ 7 ∷ 7 ∷ 7 ∷ 7 ∷ 7 ∷ 7 ∷ 7 ∷ 7 ∷ 7 ∷ 7 ∷ 7 ∷ 7 ∷ 7 ∷ 7 ∷ 7 ∷ 7 ∷ 7 ∷ 7 ∷ 7 ∷ 7 ∷ 7 ∷ 7 ∷ 7 ∷ 7 ∷ 7 ∷ 7 ∷ 7 ∷ 7 ∷ 7 ∷ 7 ∷ 7 ∷ 7 ∷ 7 ∷ 7 ∷ 7 ∷ 7 ∷ 7 ∷ 7 ∷ 7 ∷ 7 ∷ 7 ∷ 7 ∷ 7 ∷ 7 ∷ 7 ∷ 7 ∷ 7 ∷ 7 ∷ 7 ∷ 7 ∷ 7 ∷ 7 ∷ 7 ∷ 7 ∷ 7 ∷ 7 ∷ 7 ∷ 7 ∷ []); places = (9 ∷ 9 ∷ 9 ∷ 9 ∷ 9 ∷ 9 ∷ 9 ∷ []) } ∷
    record { text = (37 ∷ 115 ∷ 116 ∷ 97 ∷ 114 ∷ 116 ∷ 32 ∷ 98 ∷ 32 ∷ 37 ∷ 116 ∷ 111 ∷ 107 ∷ 101 ∷ 110 ∷ 32 ∷ 97 ∷ 32 ∷ 97 ∷ 10 ∷ 37 ∷ 37 ∷ 10 ∷ 99 ∷ 32 ∷ 58 ∷ 32 ∷ 98 ∷ 32 ∷ 39 ∷ 97 ∷ 39 ∷ 32 ∷ 124 ∷ 32 ∷ 59 ∷ 10 ∷ 98 ∷ 32 ∷ 58 ∷ 32 ∷ 97 ∷ 32 ∷ 59 ∷ 10 ∷ 99 ∷ 32 ∷ 58 ∷ 32 ∷ 39 ∷ 97 ∷ 39 ∷ 32 ∷ 47 ∷ 42 ∷ 32 ∷ 116 ∷ 119 ∷ 105 ∷ 99 ∷ 101 ∷ 32 ∷ 42 ∷ 47 ∷ 32 ∷ 39 ∷ 97 ∷ 39 ∷ 32 ∷ 59 ∷ []); table = (7 ∷ 7 ∷ 7 ∷ 7 ∷ 7 ∷ 7 ∷ 7 ∷ 7 ∷ 7 ∷ 7 ∷ 7 ∷ 7 ∷ 7 ∷ 7 ∷ 7 ∷ 7 ∷ 7 ∷ 7 ∷ 7 ∷ 7 ∷ 7 ∷ 7 ∷ 7 ∷ 7 ∷ 7 ∷ 7 ∷ 7 ∷ 7 ∷ 7 ∷ 7 ∷ 7 ∷ 7 ∷ 7 ∷ 7 ∷ 7 ∷ 7 ∷ 7 ∷ 7 ∷ 7 ∷ 7 ∷ 7 ∷ 7 ∷ 7 ∷ 7 ∷ 7 ∷ 7 ∷ 7 ∷ 7 ∷ 7 ∷ 7 ∷ 7 ∷ 7 ∷ 7 ∷ 7 ∷ 7 ∷ 7 ∷ 7 ∷ 7 ∷ 7 ∷ 7 ∷ 7 ∷ 7 ∷ 7 ∷ 7 ∷ 7 ∷ 7 ∷ 7 ∷ 7 ∷ 7 ∷ 7 ∷ 7 ∷ 7 ∷ 7 ∷ 7 ∷ 7 ∷ 7 ∷ 7 ∷ 7 ∷ 7 ∷ 7 ∷ []); places = (9 ∷ 9 ∷ 9 ∷ 9 ∷ 9 ∷ []) } ∷
    record { text = (37 ∷ 37 ∷ 120 ∷ 58 ∷ 59 ∷ []); table = (7 ∷ 7 ∷ 7 ∷ 7 ∷ 7 ∷ 7 ∷ 7 ∷ 7 ∷ 7 ∷ 7 ∷ 7 ∷ 7 ∷ 7 ∷ 7 ∷ 7 ∷ 7 ∷ []); places = (9 ∷ []) } ∷
    []) ≡ (
    record { answer = read_as 17 6 (record { 0 = 0 }); table = (1 ∷ 5 ∷ 1 ∷ 3 ∷ 3 ∷ 0 ∷ 0 ∷ 0 ∷ 0 ∷ 0 ∷ 0 ∷ 0 ∷ 4 ∷ 6 ∷ 31 ∷ 42 ∷ 5 ∷ 10 ∷ 47 ∷ 65 ∷ 0 ∷ 16 ∷ 70 ∷ 71 ∷ 7 ∷ 1 ∷ 0 ∷ 0 ∷ 8 ∷ 1 ∷ 3 ∷ 0 ∷ 9 ∷ 1 ∷ 1 ∷ 0 ∷ 0 ∷ 0 ∷ 0 ∷ 0 ∷ 11 ∷ 1 ∷ 0 ∷ 0 ∷ 12 ∷ 1 ∷ 3 ∷ 0 ∷ 13 ∷ 1 ∷ 1 ∷ 0 ∷ 14 ∷ 0 ∷ 0 ∷ 0 ∷ 15 ∷ 1 ∷ 2 ∷ 0 ∷ 0 ∷ 0 ∷ 0 ∷ 0 ∷ 0 ∷ 1 ∷ 4 ∷ 0 ∷ 7 ∷ 7 ∷ []); places = (27 ∷ 7 ∷ 10 ∷ 15 ∷ 20 ∷ 22 ∷ 9 ∷ []) } ∷
    record { answer = read_as 13 4 (record { 0 = 1 }); table = (2 ∷ 2 ∷ 1 ∷ 4 ∷ 4 ∷ 0 ∷ 0 ∷ 0 ∷ 6 ∷ 0 ∷ 0 ∷ 0 ∷ 0 ∷ 0 ∷ 0 ∷ 0 ∷ 5 ∷ 8 ∷ 27 ∷ 32 ∷ 7 ∷ 0 ∷ 35 ∷ 35 ∷ 0 ∷ 10 ∷ 41 ∷ 42 ∷ 0 ∷ 11 ∷ 49 ∷ 68 ∷ 9 ∷ 0 ∷ 1 ∷ 0 ∷ 0 ∷ 1 ∷ 1 ∷ 0 ∷ 0 ∷ 1 ∷ 0 ∷ 0 ∷ 12 ∷ 1 ∷ 1 ∷ 0 ∷ 0 ∷ 1 ∷ 1 ∷ 0 ∷ 7 ∷ 7 ∷ 7 ∷ 7 ∷ 7 ∷ 7 ∷ 7 ∷ 7 ∷ 7 ∷ 7 ∷ 7 ∷ 7 ∷ 7 ∷ 7 ∷ 7 ∷ 7 ∷ 7 ∷ 7 ∷ 7 ∷ 7 ∷ 7 ∷ 7 ∷ 7 ∷ 7 ∷ 7 ∷ 7 ∷ 7 ∷ 7 ∷ []); places = (23 ∷ 37 ∷ 16 ∷ 29 ∷ 9 ∷ []) } ∷
    record { answer = read_as 4 1 (record { 0 = 0 }); table = (1 ∷ 0 ∷ 1 ∷ 1 ∷ 3 ∷ 0 ∷ 0 ∷ 0 ∷ 0 ∷ 0 ∷ 0 ∷ 0 ∷ 0 ∷ 0 ∷ 4 ∷ 4 ∷ []); places = (2 ∷ []) } ∷
    [])
unfolding same_words in_front up_from below first? keep some? joined words head_of chain_from chains_from place_of size_of kind_of_symbol number_of states_at productions_at symbols_at items_place edges_at records_of owns record_or next_owned_from nonterminal_quad state_quad production_quad count_quad nonterminal_quads state_quads production_quads symbol_quads item_quads edge_quads quads spell is_white_byte is_letter_byte is_digit_byte kind_of goes_on_byte no_start one_start spell_id spell_token spell_piece tokens_in slash_next closes literal_byte stops rest run_of past_run strip literal_if next_literal word_if start_or token_or mark_or longer in_comment comment_or next_of next before after lex_steps lex left_side_of marked declared begun step run whole file_of laid parsed parse begins sides move width_of placed event_of events same_id is_known number_in enter entered left_side literal_use token_use start_use span_start span_end alternative alternatives_from source_of symbol_of production_of productions_of owned table_of places_of start_of unchanged nowhere undefined_use named_both_ways undefined_start misnamed too_many too_long room answer_of fitted_of counted_of named_of source_in parsed_of read_of
texts_read = refl

-- 20, outside the grammar: `%%x:`
-- 21, a name that is neither: `%%x:y;`
-- 21, both, though unused: `%token x%%x:;`
-- 21, a start that is a token: `%token t%start t%%x:;`
-- 21, a start that is a literal: `%start't'%%x:'t';`
-- 21 before 2: `%%a0:;b1:;a2:;b3:;a4:;b5 ..`
-- 2, 33 nonterminals: `%%a0:;b1:;a2:;b3:;a4:;b5 ..`
-- 5, seventeen symbols, at record N + 2 + 1: `%%x:|'.''.''.''.''.''.''.''.''.''.''.''.''.''.''.''.''.';`
-- 17, a table one word short: `%%x:'a';`
-- 17, a list one place short: `%%x:'a';`
pub texts_refused : map (λ (c : Call). read_of c.text c.table c.places) (
    record { text = (37 ∷ 37 ∷ 120 ∷ 58 ∷ []); table = (7 ∷ 7 ∷ 7 ∷ 7 ∷ 7 ∷ 7 ∷ 7 ∷ 7 ∷ 7 ∷ 7 ∷ 7 ∷ 7 ∷ 7 ∷ 7 ∷ 7 ∷ 7 ∷ []); places = (9 ∷ 9 ∷ []) } ∷
    record { text = (37 ∷ 37 ∷ 120 ∷ 58 ∷ 121 ∷ 59 ∷ []); table = (7 ∷ 7 ∷ 7 ∷ 7 ∷ 7 ∷ 7 ∷ 7 ∷ 7 ∷ 7 ∷ 7 ∷ 7 ∷ 7 ∷ 7 ∷ 7 ∷ 7 ∷ 7 ∷ []); places = (9 ∷ 9 ∷ []) } ∷
    record { text = (37 ∷ 116 ∷ 111 ∷ 107 ∷ 101 ∷ 110 ∷ 32 ∷ 120 ∷ 37 ∷ 37 ∷ 120 ∷ 58 ∷ 59 ∷ []); table = (7 ∷ 7 ∷ 7 ∷ 7 ∷ 7 ∷ 7 ∷ 7 ∷ 7 ∷ 7 ∷ 7 ∷ 7 ∷ 7 ∷ 7 ∷ 7 ∷ 7 ∷ 7 ∷ []); places = (9 ∷ 9 ∷ []) } ∷
    record { text = (37 ∷ 116 ∷ 111 ∷ 107 ∷ 101 ∷ 110 ∷ 32 ∷ 116 ∷ 37 ∷ 115 ∷ 116 ∷ 97 ∷ 114 ∷ 116 ∷ 32 ∷ 116 ∷ 37 ∷ 37 ∷ 120 ∷ 58 ∷ 59 ∷ []); table = (7 ∷ 7 ∷ 7 ∷ 7 ∷ 7 ∷ 7 ∷ 7 ∷ 7 ∷ 7 ∷ 7 ∷ 7 ∷ 7 ∷ 7 ∷ 7 ∷ 7 ∷ 7 ∷ []); places = (9 ∷ 9 ∷ []) } ∷
    record { text = (37 ∷ 115 ∷ 116 ∷ 97 ∷ 114 ∷ 116 ∷ 39 ∷ 116 ∷ 39 ∷ 37 ∷ 37 ∷ 120 ∷ 58 ∷ 39 ∷ 116 ∷ 39 ∷ 59 ∷ []); table = (7 ∷ 7 ∷ 7 ∷ 7 ∷ 7 ∷ 7 ∷ 7 ∷ 7 ∷ 7 ∷ 7 ∷ 7 ∷ 7 ∷ 7 ∷ 7 ∷ 7 ∷ 7 ∷ []); places = (9 ∷ 9 ∷ []) } ∷
    record { text = (37 ∷ 37 ∷ 97 ∷ 48 ∷ 58 ∷ 59 ∷ 98 ∷ 49 ∷ 58 ∷ 59 ∷ 97 ∷ 50 ∷ 58 ∷ 59 ∷ 98 ∷ 51 ∷ 58 ∷ 59 ∷ 97 ∷ 52 ∷ 58 ∷ 59 ∷ 98 ∷ 53 ∷ 58 ∷ 59 ∷ 97 ∷ 54 ∷ 58 ∷ 59 ∷ 98 ∷ 55 ∷ 58 ∷ 59 ∷ 97 ∷ 56 ∷ 58 ∷ 59 ∷ 98 ∷ 57 ∷ 58 ∷ 59 ∷ 97 ∷ 49 ∷ 48 ∷ 58 ∷ 59 ∷ 98 ∷ 49 ∷ 49 ∷ 58 ∷ 59 ∷ 97 ∷ 49 ∷ 50 ∷ 58 ∷ 59 ∷ 98 ∷ 49 ∷ 51 ∷ 58 ∷ 59 ∷ 97 ∷ 49 ∷ 52 ∷ 58 ∷ 59 ∷ 98 ∷ 49 ∷ 53 ∷ 58 ∷ 59 ∷ 97 ∷ 49 ∷ 54 ∷ 58 ∷ 59 ∷ 98 ∷ 49 ∷ 55 ∷ 58 ∷ 59 ∷ 97 ∷ 49 ∷ 56 ∷ 58 ∷ 59 ∷ 98 ∷ 49 ∷ 57 ∷ 58 ∷ 59 ∷ 97 ∷ 50 ∷ 48 ∷ 58 ∷ 59 ∷ 98 ∷ 50 ∷ 49 ∷ 58 ∷ 59 ∷ 97 ∷ 50 ∷ 50 ∷ 58 ∷ 59 ∷ 98 ∷ 50 ∷ 51 ∷ 58 ∷ 59 ∷ 97 ∷ 50 ∷ 52 ∷ 58 ∷ 59 ∷ 98 ∷ 50 ∷ 53 ∷ 58 ∷ 59 ∷ 97 ∷ 50 ∷ 54 ∷ 58 ∷ 59 ∷ 98 ∷ 50 ∷ 55 ∷ 58 ∷ 59 ∷ 97 ∷ 50 ∷ 56 ∷ 58 ∷ 59 ∷ 98 ∷ 50 ∷ 57 ∷ 58 ∷ 59 ∷ 97 ∷ 51 ∷ 48 ∷ 58 ∷ 59 ∷ 98 ∷ 51 ∷ 49 ∷ 58 ∷ 59 ∷ 97 ∷ 51 ∷ 50 ∷ 58 ∷ 59 ∷ 99 ∷ 58 ∷ 100 ∷ 59 ∷ []); table = (7 ∷ 7 ∷ 7 ∷ 7 ∷ 7 ∷ 7 ∷ 7 ∷ 7 ∷ 7 ∷ 7 ∷ 7 ∷ 7 ∷ 7 ∷ 7 ∷ 7 ∷ 7 ∷ []); places = (9 ∷ 9 ∷ []) } ∷
    record { text = (37 ∷ 37 ∷ 97 ∷ 48 ∷ 58 ∷ 59 ∷ 98 ∷ 49 ∷ 58 ∷ 59 ∷ 97 ∷ 50 ∷ 58 ∷ 59 ∷ 98 ∷ 51 ∷ 58 ∷ 59 ∷ 97 ∷ 52 ∷ 58 ∷ 59 ∷ 98 ∷ 53 ∷ 58 ∷ 59 ∷ 97 ∷ 54 ∷ 58 ∷ 59 ∷ 98 ∷ 55 ∷ 58 ∷ 59 ∷ 97 ∷ 56 ∷ 58 ∷ 59 ∷ 98 ∷ 57 ∷ 58 ∷ 59 ∷ 97 ∷ 49 ∷ 48 ∷ 58 ∷ 59 ∷ 98 ∷ 49 ∷ 49 ∷ 58 ∷ 59 ∷ 97 ∷ 49 ∷ 50 ∷ 58 ∷ 59 ∷ 98 ∷ 49 ∷ 51 ∷ 58 ∷ 59 ∷ 97 ∷ 49 ∷ 52 ∷ 58 ∷ 59 ∷ 98 ∷ 49 ∷ 53 ∷ 58 ∷ 59 ∷ 97 ∷ 49 ∷ 54 ∷ 58 ∷ 59 ∷ 98 ∷ 49 ∷ 55 ∷ 58 ∷ 59 ∷ 97 ∷ 49 ∷ 56 ∷ 58 ∷ 59 ∷ 98 ∷ 49 ∷ 57 ∷ 58 ∷ 59 ∷ 97 ∷ 50 ∷ 48 ∷ 58 ∷ 59 ∷ 98 ∷ 50 ∷ 49 ∷ 58 ∷ 59 ∷ 97 ∷ 50 ∷ 50 ∷ 58 ∷ 59 ∷ 98 ∷ 50 ∷ 51 ∷ 58 ∷ 59 ∷ 97 ∷ 50 ∷ 52 ∷ 58 ∷ 59 ∷ 98 ∷ 50 ∷ 53 ∷ 58 ∷ 59 ∷ 97 ∷ 50 ∷ 54 ∷ 58 ∷ 59 ∷ 98 ∷ 50 ∷ 55 ∷ 58 ∷ 59 ∷ 97 ∷ 50 ∷ 56 ∷ 58 ∷ 59 ∷ 98 ∷ 50 ∷ 57 ∷ 58 ∷ 59 ∷ 97 ∷ 51 ∷ 48 ∷ 58 ∷ 59 ∷ 98 ∷ 51 ∷ 49 ∷ 58 ∷ 59 ∷ 97 ∷ 51 ∷ 50 ∷ 58 ∷ 59 ∷ []); table = (7 ∷ 7 ∷ 7 ∷ 7 ∷ 7 ∷ 7 ∷ 7 ∷ 7 ∷ 7 ∷ 7 ∷ 7 ∷ 7 ∷ 7 ∷ 7 ∷ 7 ∷ 7 ∷ []); places = (9 ∷ 9 ∷ []) } ∷
    record { text = (37 ∷ 37 ∷ 120 ∷ 58 ∷ 124 ∷ 39 ∷ 46 ∷ 39 ∷ 39 ∷ 46 ∷ 39 ∷ 39 ∷ 46 ∷ 39 ∷ 39 ∷ 46 ∷ 39 ∷ 39 ∷ 46 ∷ 39 ∷ 39 ∷ 46 ∷ 39 ∷ 39 ∷ 46 ∷ 39 ∷ 39 ∷ 46 ∷ 39 ∷ 39 ∷ 46 ∷ 39 ∷ 39 ∷ 46 ∷ 39 ∷ 39 ∷ 46 ∷ 39 ∷ 39 ∷ 46 ∷ 39 ∷ 39 ∷ 46 ∷ 39 ∷ 39 ∷ 46 ∷ 39 ∷ 39 ∷ 46 ∷ 39 ∷ 39 ∷ 46 ∷ 39 ∷ 39 ∷ 46 ∷ 39 ∷ 59 ∷ []); table = (7 ∷ 7 ∷ 7 ∷ 7 ∷ 7 ∷ 7 ∷ 7 ∷ 7 ∷ 7 ∷ 7 ∷ 7 ∷ 7 ∷ 7 ∷ 7 ∷ 7 ∷ 7 ∷ []); places = (9 ∷ 9 ∷ []) } ∷
    record { text = (37 ∷ 37 ∷ 120 ∷ 58 ∷ 39 ∷ 97 ∷ 39 ∷ 59 ∷ []); table = (7 ∷ 7 ∷ 7 ∷ 7 ∷ 7 ∷ 7 ∷ 7 ∷ 7 ∷ 7 ∷ 7 ∷ 7 ∷ 7 ∷ 7 ∷ 7 ∷ 7 ∷ 7 ∷ 7 ∷ 7 ∷ 7 ∷ []); places = (9 ∷ 9 ∷ []) } ∷
    record { text = (37 ∷ 37 ∷ 120 ∷ 58 ∷ 39 ∷ 97 ∷ 39 ∷ 59 ∷ []); table = (7 ∷ 7 ∷ 7 ∷ 7 ∷ 7 ∷ 7 ∷ 7 ∷ 7 ∷ 7 ∷ 7 ∷ 7 ∷ 7 ∷ 7 ∷ 7 ∷ 7 ∷ 7 ∷ 7 ∷ 7 ∷ 7 ∷ 7 ∷ []); places = (9 ∷ []) } ∷
    []) ≡ (
    record { answer = refused 20 0; table = (7 ∷ 7 ∷ 7 ∷ 7 ∷ 7 ∷ 7 ∷ 7 ∷ 7 ∷ 7 ∷ 7 ∷ 7 ∷ 7 ∷ 7 ∷ 7 ∷ 7 ∷ 7 ∷ []); places = (9 ∷ 9 ∷ []) } ∷
    record { answer = refused 21 0; table = (7 ∷ 7 ∷ 7 ∷ 7 ∷ 7 ∷ 7 ∷ 7 ∷ 7 ∷ 7 ∷ 7 ∷ 7 ∷ 7 ∷ 7 ∷ 7 ∷ 7 ∷ 7 ∷ []); places = (9 ∷ 9 ∷ []) } ∷
    record { answer = refused 21 0; table = (7 ∷ 7 ∷ 7 ∷ 7 ∷ 7 ∷ 7 ∷ 7 ∷ 7 ∷ 7 ∷ 7 ∷ 7 ∷ 7 ∷ 7 ∷ 7 ∷ 7 ∷ 7 ∷ []); places = (9 ∷ 9 ∷ []) } ∷
    record { answer = refused 21 0; table = (7 ∷ 7 ∷ 7 ∷ 7 ∷ 7 ∷ 7 ∷ 7 ∷ 7 ∷ 7 ∷ 7 ∷ 7 ∷ 7 ∷ 7 ∷ 7 ∷ 7 ∷ 7 ∷ []); places = (9 ∷ 9 ∷ []) } ∷
    record { answer = refused 21 0; table = (7 ∷ 7 ∷ 7 ∷ 7 ∷ 7 ∷ 7 ∷ 7 ∷ 7 ∷ 7 ∷ 7 ∷ 7 ∷ 7 ∷ 7 ∷ 7 ∷ 7 ∷ 7 ∷ []); places = (9 ∷ 9 ∷ []) } ∷
    record { answer = refused 21 0; table = (7 ∷ 7 ∷ 7 ∷ 7 ∷ 7 ∷ 7 ∷ 7 ∷ 7 ∷ 7 ∷ 7 ∷ 7 ∷ 7 ∷ 7 ∷ 7 ∷ 7 ∷ 7 ∷ []); places = (9 ∷ 9 ∷ []) } ∷
    record { answer = refused 2 0; table = (7 ∷ 7 ∷ 7 ∷ 7 ∷ 7 ∷ 7 ∷ 7 ∷ 7 ∷ 7 ∷ 7 ∷ 7 ∷ 7 ∷ 7 ∷ 7 ∷ 7 ∷ 7 ∷ []); places = (9 ∷ 9 ∷ []) } ∷
    record { answer = refused 5 4; table = (7 ∷ 7 ∷ 7 ∷ 7 ∷ 7 ∷ 7 ∷ 7 ∷ 7 ∷ 7 ∷ 7 ∷ 7 ∷ 7 ∷ 7 ∷ 7 ∷ 7 ∷ 7 ∷ []); places = (9 ∷ 9 ∷ []) } ∷
    record { answer = refused 17 0; table = (7 ∷ 7 ∷ 7 ∷ 7 ∷ 7 ∷ 7 ∷ 7 ∷ 7 ∷ 7 ∷ 7 ∷ 7 ∷ 7 ∷ 7 ∷ 7 ∷ 7 ∷ 7 ∷ 7 ∷ 7 ∷ 7 ∷ []); places = (9 ∷ 9 ∷ []) } ∷
    record { answer = refused 17 0; table = (7 ∷ 7 ∷ 7 ∷ 7 ∷ 7 ∷ 7 ∷ 7 ∷ 7 ∷ 7 ∷ 7 ∷ 7 ∷ 7 ∷ 7 ∷ 7 ∷ 7 ∷ 7 ∷ 7 ∷ 7 ∷ 7 ∷ 7 ∷ []); places = (9 ∷ []) } ∷
    [])
unfolding same_words in_front up_from below first? keep some? joined words head_of chain_from chains_from place_of size_of kind_of_symbol number_of states_at productions_at symbols_at items_place edges_at records_of owns record_or next_owned_from nonterminal_quad state_quad production_quad count_quad nonterminal_quads state_quads production_quads symbol_quads item_quads edge_quads quads spell is_white_byte is_letter_byte is_digit_byte kind_of goes_on_byte no_start one_start spell_id spell_token spell_piece tokens_in slash_next closes literal_byte stops rest run_of past_run strip literal_if next_literal word_if start_or token_or mark_or longer in_comment comment_or next_of next before after lex_steps lex left_side_of marked declared begun step run whole file_of laid parsed parse begins sides move width_of placed event_of events same_id is_known number_in enter entered left_side literal_use token_use start_use span_start span_end alternative alternatives_from source_of symbol_of production_of productions_of owned table_of places_of start_of unchanged nowhere undefined_use named_both_ways undefined_start misnamed too_many too_long room answer_of fitted_of counted_of named_of source_in parsed_of read_of
texts_refused = refl
