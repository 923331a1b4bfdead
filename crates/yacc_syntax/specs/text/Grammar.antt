-- The yacc texts that are read (docs/YACC.md), without a parser: an abstract file, a layout that writes it down, and what a sound layout is.
use Rattle.std.specs.Prelude.{ℕ, ◌≤◌, ◌<◌, Bool, true, false, ◌&&◌, ◌||◌, not, ◌≡◌, List, [], ◌∷◌, ◌++◌, eqb, leb, length, get_or}
use Rattle.lr1_base.specs.numerals.Numeral.{is_digit_byte}

-- bytes of a text at most (refusal 20), and what a byte is below
abbrev pub text_limit : ℕ
text_limit = 65535

abbrev pub byte_limit : ℕ
byte_limit = 256

-- what a byte can begin
pub data Kind : Type 0 where
  blank : Kind
  letter : Kind
  digit : Kind
  quote : Kind
  percent : Kind
  slash : Kind
  colons : Kind
  bars : Kind
  semis : Kind
  other : Kind

-- space, tab, newline, form feed
unfoldable pub is_white_byte : ℕ → Bool
is_white_byte b = eqb b 32 || (eqb b 9 || (eqb b 10 || eqb b 12))

-- A to Z, a to z, `.`, `_`
unfoldable pub is_letter_byte : ℕ → Bool
is_letter_byte b = (leb 65 b && leb b 90) || ((leb 97 b && leb b 122) || (eqb b 46 || eqb b 95))

unfoldable pub kind_of : ℕ → Kind
kind_of b = elim (is_white_byte b) [
  | true ↦ blank
  | false ↦ elim (is_letter_byte b) [
    | true ↦ letter
    | false ↦ elim (is_digit_byte b) [
      | true ↦ digit
      | false ↦ elim (eqb b 39) [
        | true ↦ quote
        | false ↦ elim (eqb b 37) [
          | true ↦ percent
          | false ↦ elim (eqb b 47) [
            | true ↦ slash
            | false ↦ elim (eqb b 58) [ true ↦ colons | false ↦ elim (eqb b 124) [ true ↦ bars | false ↦ elim (eqb b 59) [ true ↦ semis | false ↦ other ] ] ]
          ]
        ]
      ]
    ]
  ]
]

unfoldable pub blank? : Kind → Bool
blank? k = elim k [ blank ↦ true | letter ↦ false | digit ↦ false | quote ↦ false | percent ↦ false | slash ↦ false | colons ↦ false | bars ↦ false | semis ↦ false | other ↦ false ]

unfoldable pub letter? : Kind → Bool
letter? k = elim k [ blank ↦ false | letter ↦ true | digit ↦ false | quote ↦ false | percent ↦ false | slash ↦ false | colons ↦ false | bars ↦ false | semis ↦ false | other ↦ false ]

-- goes on a name: a letter or a digit
unfoldable pub goes_on_byte : Kind → Bool
goes_on_byte k = elim k [ blank ↦ false | letter ↦ true | digit ↦ true | quote ↦ false | percent ↦ false | slash ↦ false | colons ↦ false | bars ↦ false | semis ↦ false | other ↦ false ]

-- a name by its first byte and the others; a literal by its byte
pub data Id : Type 0 where
  named : ℕ → List ℕ → Id
  quoted : ℕ → Id

pub data Token : Type 0 where
  ident : Id → Token
  token : Token
  start : Token
  mark : Token
  colon : Token
  bar : Token
  semi : Token

-- a text in pieces: white bytes and comments are the gaps between the tokens
pub data Piece : Type 0 where
  white : ℕ → Piece
  comment : List ℕ → Piece
  piece : Token → Piece

-- the abstract file: a rule is its left side (first byte, other bytes), its first body and the other bodies
pub data Rule : Type 0 where
  rule : ℕ → List ℕ → List Id → List (List Id) → Rule

pub data Def : Type 0 where
  starts : Id → Def
  tokens : Id → List Id → Def

pub record File : Type 0 where
  pub defs : List Def
  pub first : Rule
  pub more : List Rule

-- its tokens, each in front of those that follow
unfoldable pub ids_to : List Id → List Token → List Token
ids_to [] k = k
ids_to (x ∷ xs) k = ident x ∷ ids_to xs k

unfoldable pub alts_to : List Id → List (List Id) → List Token → List Token
alts_to b [] k = ids_to b (semi ∷ k)
alts_to b (c ∷ cs) k = ids_to b (bar ∷ alts_to c cs k)

unfoldable pub rule_to : Rule → List Token → List Token
rule_to (rule n ns b cs) k = ident (named n ns) ∷ colon ∷ alts_to b cs k

unfoldable pub rules_to : List Rule → List Token
rules_to [] = []
rules_to (r ∷ rs) = rule_to r (rules_to rs)

unfoldable pub def_to : Def → List Token → List Token
def_to (starts x) k = start ∷ ident x ∷ k
def_to (tokens x xs) k = token ∷ ident x ∷ ids_to xs k

unfoldable pub defs_to : List Def → List Token → List Token
defs_to [] k = k
defs_to (d ∷ ds) k = def_to d (defs_to ds k)

unfoldable pub tokens_of : File → List Token
tokens_of f = defs_to f.defs (mark ∷ rule_to f.first (rules_to f.more))

-- `%start` at most once
unfoldable pub no_start : List Def → Bool
no_start [] = true
no_start (starts x ∷ ds) = false
no_start (tokens x xs ∷ ds) = no_start ds

unfoldable pub one_start : List Def → Bool
one_start [] = true
one_start (starts x ∷ ds) = no_start ds
one_start (tokens x xs ∷ ds) = one_start ds

-- the bytes of a piece in front of those that follow
unfoldable pub spell_id : Id → List ℕ → List ℕ
spell_id (named n ns) k = n ∷ (ns ++ k)
spell_id (quoted b) k = 39 ∷ b ∷ 39 ∷ k

unfoldable pub spell_token : Token → List ℕ → List ℕ
spell_token (ident x) k = spell_id x k
spell_token token k = 37 ∷ 116 ∷ 111 ∷ 107 ∷ 101 ∷ 110 ∷ k
spell_token start k = 37 ∷ 115 ∷ 116 ∷ 97 ∷ 114 ∷ 116 ∷ k
spell_token mark k = 37 ∷ 37 ∷ k
spell_token colon k = 58 ∷ k
spell_token bar k = 124 ∷ k
spell_token semi k = 59 ∷ k

unfoldable pub spell_piece : Piece → List ℕ → List ℕ
spell_piece (white b) k = b ∷ k
spell_piece (comment cs) k = 47 ∷ 42 ∷ (cs ++ (42 ∷ 47 ∷ k))
spell_piece (piece t) k = spell_token t k

unfoldable pub spell_all : List Piece → List ℕ
spell_all [] = []
spell_all (p ∷ ps) = spell_piece p (spell_all ps)

-- the tokens of a text in pieces
unfoldable pub tokens_in : List Piece → List Token
tokens_in [] = []
tokens_in (white b ∷ ps) = tokens_in ps
tokens_in (comment cs ∷ ps) = tokens_in ps
tokens_in (piece t ∷ ps) = t ∷ tokens_in ps

-- letters and digits
unfoldable pub all_run : List ℕ → Bool
all_run [] = true
all_run (b ∷ bs) = goes_on_byte (kind_of b) && all_run bs

-- no byte 0 and no end of a comment
unfoldable pub slash_next : List ℕ → Bool
slash_next [] = false
slash_next (b ∷ bs) = eqb b 47

unfoldable pub closes : ℕ → List ℕ → Bool
closes b bs = eqb b 42 && slash_next bs

unfoldable pub clear : List ℕ → Bool
clear [] = true
clear (b ∷ bs) = not (closes b bs) && (not (eqb b 0) && clear bs)

-- not 0, newline, `'`, `\`
unfoldable pub literal_byte : ℕ → Bool
literal_byte b = not (eqb b 0 || (eqb b 10 || (eqb b 39 || eqb b 92)))

unfoldable pub ok_id : Id → Bool
ok_id (named n ns) = letter? (kind_of n) && all_run ns
ok_id (quoted b) = literal_byte b

unfoldable pub ok_token : Token → Bool
ok_token t = elim t [ ident x ↦ ok_id x | token ↦ true | start ↦ true | mark ↦ true | colon ↦ true | bar ↦ true | semi ↦ true ]

unfoldable pub ok_piece : Piece → Bool
ok_piece (white b) = blank? (kind_of b)
ok_piece (comment cs) = clear cs
ok_piece (piece t) = ok_token t

-- after a name, `%token` or `%start` the next byte is no letter and no digit
unfoldable pub stops : List ℕ → Bool
stops [] = true
stops (b ∷ bs) = not (goes_on_byte (kind_of b))

unfoldable pub apart_id : Id → List ℕ → Bool
apart_id (named n ns) k = stops k
apart_id (quoted b) k = true

unfoldable pub apart_token : Token → List ℕ → Bool
apart_token t k = elim t [ ident x ↦ apart_id x k | token ↦ stops k | start ↦ stops k | mark ↦ true | colon ↦ true | bar ↦ true | semi ↦ true ]

unfoldable pub apart : Piece → List ℕ → Bool
apart (white b) k = true
apart (comment cs) k = true
apart (piece t) k = apart_token t k

unfoldable pub fits : List Piece → Bool
fits [] = true
fits (p ∷ ps) = ok_piece p && (apart p (spell_all ps) && fits ps)

-- a layout: the file and the pieces that write it down
pub record Layout : Type 0 where
  pub pieces : List Piece
  pub file : File

unfoldable pub spell : Layout → List ℕ
spell l = spell_all l.pieces

pub record Sound (l : Layout) : Type 0 where
  pub fit : fits l.pieces ≡ true
  pub written : tokens_in l.pieces ≡ tokens_of l.file
  pub once : one_start l.file.defs ≡ true

-- a text of the grammar: so many bytes at most, which a sound layout spells
pub record IsText (t : List ℕ) : Type 0 where
  pub short : length t ≤ text_limit
  pub bytes : (i : ℕ) → i < length t → get_or t i 0 < byte_limit
  pub layout : Layout
  pub sound : Sound layout
  pub spelled : spell layout ≡ t
