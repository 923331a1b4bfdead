-- The edges of each class of bytes, and texts computed.
use mathlib.Core.Bool.{Bool, true, false}
use Prim.Native.Nat.{ℕ}
use mathlib.Core.Path.{◌≡◌, refl}
use mathlib.Core.List.{List, [], ◌∷◌, map}
use mathlib.Core.Option.{none, some}
use Rattle.yacc_syntax.specs.text.Grammar.{blank, letter, digit, quote, percent, slash, colons, bars, semis, other, is_white_byte, is_letter_byte, kind_of, goes_on_byte, named, quoted, ident, token, mark, colon, bar, semi, comment, piece, rule, tokens, no_start, one_start, tokens_in, slash_next, closes, literal_byte, stops}
use Rattle.yacc_syntax.specs.text.Lex.{rest, run_of, past_run, strip, literal_if, next_literal, word_if, start_or, token_or, mark_or, longer, in_comment, comment_or, next_of, next, before, after, lex_steps, lex}
use Rattle.yacc_syntax.specs.text.Parse.{left_side, marked, declared, begun, step, run, whole, file_of, laid, parsed, parse}
use Rattle.lr1_base.specs.numerals.Numeral.{is_digit_byte}

-- the bytes beside each edge of docs/YACC.md's table
pub kinds : map kind_of (0 ∷ 8 ∷ 9 ∷ 10 ∷ 11 ∷ 12 ∷ 13 ∷ 31 ∷ 32 ∷ 33 ∷ 36 ∷ 37 ∷ 38 ∷ 39 ∷ 40 ∷ 45 ∷ 46 ∷ 47 ∷ 48 ∷ 57 ∷ 58 ∷ 59 ∷ 60 ∷ 64 ∷ 65 ∷ 90 ∷ 91 ∷ 94 ∷ 95 ∷ 96 ∷ 97 ∷ 122 ∷ 123 ∷ 124 ∷ 125 ∷ 127 ∷ 128 ∷ 255 ∷ []) ≡ other ∷ other ∷ blank ∷ blank ∷ other ∷ blank ∷ other ∷ other ∷ blank ∷ other ∷ other ∷ percent ∷ other ∷ quote ∷ other ∷ other ∷ letter ∷ slash ∷ digit ∷ digit ∷ colons ∷ semis ∷ other ∷ other ∷ letter ∷ letter ∷ other ∷ other ∷ letter ∷ other ∷ letter ∷ letter ∷ other ∷ bars ∷ other ∷ other ∷ other ∷ other ∷ []
unfolding kind_of is_white_byte is_letter_byte is_digit_byte
kinds = refl

pub literal_bytes : map literal_byte (0 ∷ 1 ∷ 9 ∷ 10 ∷ 11 ∷ 38 ∷ 39 ∷ 40 ∷ 91 ∷ 92 ∷ 93 ∷ 127 ∷ 128 ∷ 255 ∷ []) ≡ false ∷ true ∷ true ∷ false ∷ true ∷ true ∷ false ∷ true ∷ true ∷ false ∷ true ∷ true ∷ true ∷ true ∷ []
unfolding literal_byte
literal_bytes = refl

-- `%token'a'B%%/***/x1:'a'|;`: a comment whose only byte is `*`, a literal, two names, an empty body
pub text_read : parse (37 ∷ 116 ∷ 111 ∷ 107 ∷ 101 ∷ 110 ∷ 39 ∷ 97 ∷ 39 ∷ 66 ∷ 37 ∷ 37 ∷ 47 ∷ 42 ∷ 42 ∷ 42 ∷ 47 ∷ 120 ∷ 49 ∷ 58 ∷ 39 ∷ 97 ∷ 39 ∷ 124 ∷ 59 ∷ []) ≡ some (record {
  pieces = piece token ∷ piece (ident (quoted 97)) ∷ piece (ident (named 66 [])) ∷ piece mark ∷ comment (42 ∷ []) ∷ piece (ident (named 120 (49 ∷ []))) ∷ piece colon ∷ piece (ident (quoted 97)) ∷ piece bar ∷ piece semi ∷ [];
  file = record { defs = tokens (quoted 97) (named 66 [] ∷ []) ∷ []; first = rule 120 (49 ∷ []) (quoted 97 ∷ []) ([] ∷ []); more = [] };
})
unfolding is_white_byte is_letter_byte is_digit_byte kind_of goes_on_byte no_start one_start tokens_in slash_next closes literal_byte stops rest run_of past_run strip literal_if next_literal word_if start_or token_or mark_or longer in_comment comment_or next_of next before after lex_steps lex left_side marked declared begun step run whole file_of laid parsed parse
text_read = refl

abbrev readable : List ℕ → Bool
readable t = elim (parse t) [ none ↦ false | some l ↦ true ]

-- `%%x:;`, `%token'a''b'%%x:'a'|;`, `%%a:a/**/b;`, `/***/%%x:;`, `%start x%token A%%x:A;`, `%token A%start'a'%token B%%x:;`, `%%x:'<255>'|' ';`, `%%<12>x<9>:<10>_.9|;`, `%%x:; y:;`
pub texts_read : map readable (
    (37 ∷ 37 ∷ 120 ∷ 58 ∷ 59 ∷ []) ∷
    (37 ∷ 116 ∷ 111 ∷ 107 ∷ 101 ∷ 110 ∷ 39 ∷ 97 ∷ 39 ∷ 39 ∷ 98 ∷ 39 ∷ 37 ∷ 37 ∷ 120 ∷ 58 ∷ 39 ∷ 97 ∷ 39 ∷ 124 ∷ 59 ∷ []) ∷
    (37 ∷ 37 ∷ 97 ∷ 58 ∷ 97 ∷ 47 ∷ 42 ∷ 42 ∷ 47 ∷ 98 ∷ 59 ∷ []) ∷
    (47 ∷ 42 ∷ 42 ∷ 42 ∷ 47 ∷ 37 ∷ 37 ∷ 120 ∷ 58 ∷ 59 ∷ []) ∷
    (37 ∷ 115 ∷ 116 ∷ 97 ∷ 114 ∷ 116 ∷ 32 ∷ 120 ∷ 37 ∷ 116 ∷ 111 ∷ 107 ∷ 101 ∷ 110 ∷ 32 ∷ 65 ∷ 37 ∷ 37 ∷ 120 ∷ 58 ∷ 65 ∷ 59 ∷ []) ∷
    (37 ∷ 116 ∷ 111 ∷ 107 ∷ 101 ∷ 110 ∷ 32 ∷ 65 ∷ 37 ∷ 115 ∷ 116 ∷ 97 ∷ 114 ∷ 116 ∷ 39 ∷ 97 ∷ 39 ∷ 37 ∷ 116 ∷ 111 ∷ 107 ∷ 101 ∷ 110 ∷ 32 ∷ 66 ∷ 37 ∷ 37 ∷ 120 ∷ 58 ∷ 59 ∷ []) ∷
    (37 ∷ 37 ∷ 120 ∷ 58 ∷ 39 ∷ 255 ∷ 39 ∷ 124 ∷ 39 ∷ 32 ∷ 39 ∷ 59 ∷ []) ∷
    (37 ∷ 37 ∷ 12 ∷ 120 ∷ 9 ∷ 58 ∷ 10 ∷ 95 ∷ 46 ∷ 57 ∷ 124 ∷ 59 ∷ []) ∷
    (37 ∷ 37 ∷ 120 ∷ 58 ∷ 59 ∷ 32 ∷ 121 ∷ 58 ∷ 59 ∷ []) ∷
    []) ≡ true ∷ true ∷ true ∷ true ∷ true ∷ true ∷ true ∷ true ∷ true ∷ []
unfolding is_white_byte is_letter_byte is_digit_byte kind_of goes_on_byte no_start one_start tokens_in slash_next closes literal_byte stops rest run_of past_run strip literal_if next_literal word_if start_or token_or mark_or longer in_comment comment_or next_of next before after lex_steps lex left_side marked declared begun step run whole file_of laid parsed parse
texts_read = refl

-- ``, `%%x:`, `%%`, `x:;`, `%%x:;%%`, `%%x:;;`, `%%x:|`, `%token_a%%x:;`, `%token%%x:;`, `%start x%start x%%x:;`, `%startx%%x:;`, `%start%%x:;`, `%%'a':;`, `%%x y:;`, `/*/%%x:;`, `/*<0>*/%%x:;`, `<13>%%x:;`, `<11>%%x:;`, `%%x:a,b;`, `%%x:'ab';`, `%%x:'';`, `%%x:''';`, `%%x:'\';`, `%%x:'<10>';`, `%%x:'<0>';`, `%%9x:;`, `%left A%%x:;`, `%% x:{};`
pub texts_refused : map readable (
    ([]) ∷
    (37 ∷ 37 ∷ 120 ∷ 58 ∷ []) ∷
    (37 ∷ 37 ∷ []) ∷
    (120 ∷ 58 ∷ 59 ∷ []) ∷
    (37 ∷ 37 ∷ 120 ∷ 58 ∷ 59 ∷ 37 ∷ 37 ∷ []) ∷
    (37 ∷ 37 ∷ 120 ∷ 58 ∷ 59 ∷ 59 ∷ []) ∷
    (37 ∷ 37 ∷ 120 ∷ 58 ∷ 124 ∷ []) ∷
    (37 ∷ 116 ∷ 111 ∷ 107 ∷ 101 ∷ 110 ∷ 65 ∷ 37 ∷ 37 ∷ 120 ∷ 58 ∷ 59 ∷ []) ∷
    (37 ∷ 116 ∷ 111 ∷ 107 ∷ 101 ∷ 110 ∷ 37 ∷ 37 ∷ 120 ∷ 58 ∷ 59 ∷ []) ∷
    (37 ∷ 115 ∷ 116 ∷ 97 ∷ 114 ∷ 116 ∷ 32 ∷ 120 ∷ 37 ∷ 115 ∷ 116 ∷ 97 ∷ 114 ∷ 116 ∷ 32 ∷ 120 ∷ 37 ∷ 37 ∷ 120 ∷ 58 ∷ 59 ∷ []) ∷
    (37 ∷ 115 ∷ 116 ∷ 97 ∷ 114 ∷ 116 ∷ 120 ∷ 37 ∷ 37 ∷ 120 ∷ 58 ∷ 59 ∷ []) ∷
    (37 ∷ 115 ∷ 116 ∷ 97 ∷ 114 ∷ 116 ∷ 37 ∷ 37 ∷ 120 ∷ 58 ∷ 59 ∷ []) ∷
    (37 ∷ 37 ∷ 39 ∷ 97 ∷ 39 ∷ 58 ∷ 59 ∷ []) ∷
    (37 ∷ 37 ∷ 120 ∷ 32 ∷ 121 ∷ 58 ∷ 59 ∷ []) ∷
    (47 ∷ 42 ∷ 47 ∷ 37 ∷ 37 ∷ 120 ∷ 58 ∷ 59 ∷ []) ∷
    (47 ∷ 42 ∷ 0 ∷ 42 ∷ 47 ∷ 37 ∷ 37 ∷ 120 ∷ 58 ∷ 59 ∷ []) ∷
    (13 ∷ 37 ∷ 37 ∷ 120 ∷ 58 ∷ 59 ∷ []) ∷
    (11 ∷ 37 ∷ 37 ∷ 120 ∷ 58 ∷ 59 ∷ []) ∷
    (37 ∷ 37 ∷ 120 ∷ 58 ∷ 97 ∷ 44 ∷ 98 ∷ 59 ∷ []) ∷
    (37 ∷ 37 ∷ 120 ∷ 58 ∷ 39 ∷ 97 ∷ 98 ∷ 39 ∷ 59 ∷ []) ∷
    (37 ∷ 37 ∷ 120 ∷ 58 ∷ 39 ∷ 39 ∷ 59 ∷ []) ∷
    (37 ∷ 37 ∷ 120 ∷ 58 ∷ 39 ∷ 39 ∷ 39 ∷ 59 ∷ []) ∷
    (37 ∷ 37 ∷ 120 ∷ 58 ∷ 39 ∷ 92 ∷ 39 ∷ 59 ∷ []) ∷
    (37 ∷ 37 ∷ 120 ∷ 58 ∷ 39 ∷ 10 ∷ 39 ∷ 59 ∷ []) ∷
    (37 ∷ 37 ∷ 120 ∷ 58 ∷ 39 ∷ 0 ∷ 39 ∷ 59 ∷ []) ∷
    (37 ∷ 37 ∷ 57 ∷ 120 ∷ 58 ∷ 59 ∷ []) ∷
    (37 ∷ 108 ∷ 101 ∷ 102 ∷ 116 ∷ 32 ∷ 65 ∷ 37 ∷ 37 ∷ 120 ∷ 58 ∷ 59 ∷ []) ∷
    (37 ∷ 37 ∷ 32 ∷ 120 ∷ 58 ∷ 123 ∷ 125 ∷ 59 ∷ []) ∷
    []) ≡ false ∷ false ∷ false ∷ false ∷ false ∷ false ∷ false ∷ false ∷ false ∷ false ∷ false ∷ false ∷ false ∷ false ∷ false ∷ false ∷ false ∷ false ∷ false ∷ false ∷ false ∷ false ∷ false ∷ false ∷ false ∷ false ∷ false ∷ false ∷ []
unfolding is_white_byte is_letter_byte is_digit_byte kind_of goes_on_byte no_start one_start tokens_in slash_next closes literal_byte stops rest run_of past_run strip literal_if next_literal word_if start_or token_or mark_or longer in_comment comment_or next_of next before after lex_steps lex left_side marked declared begun step run whole file_of laid parsed parse
texts_refused = refl
