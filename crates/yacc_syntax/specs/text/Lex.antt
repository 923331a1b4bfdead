-- The pieces one after the other, as a lexer reads them: what stands at the front of a text.
use Rattle.std.specs.Prelude.{ℕ, zero, suc, Bool, true, false, ◌&&◌, List, [], ◌∷◌, eqb, length}
use Rattle.std.proofs.Math.Option.{Option, none, some}
use Rattle.yacc_syntax.specs.text.Grammar.{Kind, blank, letter, digit, quote, percent, slash, colons, bars, semis, other, kind_of, goes_on_byte, named, quoted, Token, ident, token, start, mark, colon, bar, semi, Piece, white, comment, piece, closes, literal_byte, stops}

pub data Next : Type 0 where
  goes : Piece → List ℕ → Next
  ends : Next
  outside : Next

unfoldable pub rest : List ℕ → List ℕ
rest [] = []
rest (b ∷ bs) = bs

-- the longest run of letters and digits, and what stands behind it
unfoldable pub run_of : List ℕ → List ℕ
run_of [] = []
run_of (b ∷ bs) = elim (goes_on_byte (kind_of b)) [ true ↦ b ∷ run_of bs | false ↦ [] ]

unfoldable pub past_run : List ℕ → List ℕ
past_run [] = []
past_run (b ∷ bs) = elim (goes_on_byte (kind_of b)) [ true ↦ past_run bs | false ↦ b ∷ bs ]

unfoldable pub strip : List ℕ → List ℕ → Option (List ℕ)
strip [] t = some t
strip (p ∷ ps) [] = none
strip (p ∷ ps) (b ∷ t) = elim (eqb p b) [ true ↦ strip ps t | false ↦ none ]

-- behind the opening quote
unfoldable pub literal_if : Bool → ℕ → List ℕ → Next
literal_if true c k = goes (piece (ident (quoted c))) k
literal_if false c k = outside

unfoldable pub next_literal : List ℕ → Next
next_literal [] = outside
next_literal (c ∷ []) = outside
next_literal (c ∷ d ∷ k) = literal_if (literal_byte c && eqb d 39) c k

-- behind the `%`
unfoldable pub word_if : Bool → Token → List ℕ → Next
word_if true t k = goes (piece t) k
word_if false t k = outside

unfoldable pub start_or : Option (List ℕ) → Next
start_or none = outside
start_or (some k) = word_if (stops k) start k

unfoldable pub token_or : Option (List ℕ) → List ℕ → Next
token_or none t = start_or (strip (115 ∷ 116 ∷ 97 ∷ 114 ∷ 116 ∷ []) t)
token_or (some k) t = word_if (stops k) token k

unfoldable pub mark_or : Option (List ℕ) → List ℕ → Next
mark_or none t = token_or (strip (116 ∷ 111 ∷ 107 ∷ 101 ∷ 110 ∷ []) t) t
mark_or (some k) t = goes (piece mark) k

-- behind the `/*`: the bytes up to the first end
unfoldable pub longer : ℕ → Next → Next
longer b (goes (comment cs) k) = goes (comment (b ∷ cs)) k
longer b (goes (white c) k) = outside
longer b (goes (piece t) k) = outside
longer b ends = outside
longer b outside = outside

unfoldable pub in_comment : List ℕ → Next
in_comment [] = outside
in_comment (b ∷ bs) = elim (closes b bs) [ true ↦ goes (comment []) (rest bs) | false ↦ elim (eqb b 0) [ true ↦ outside | false ↦ longer b (in_comment bs) ] ]

unfoldable pub comment_or : Option (List ℕ) → Next
comment_or none = outside
comment_or (some k) = in_comment k

unfoldable pub next_of : Kind → ℕ → List ℕ → Next
next_of blank b bs = goes (white b) bs
next_of letter b bs = goes (piece (ident (named b (run_of bs)))) (past_run bs)
next_of digit b bs = outside
next_of quote b bs = next_literal bs
next_of percent b bs = mark_or (strip (37 ∷ []) bs) bs
next_of slash b bs = comment_or (strip (42 ∷ []) bs)
next_of colons b bs = goes (piece colon) bs
next_of bars b bs = goes (piece bar) bs
next_of semis b bs = goes (piece semi) bs
next_of other b bs = outside

unfoldable pub next : List ℕ → Next
next [] = ends
next (b ∷ bs) = next_of (kind_of b) b bs

unfoldable pub before : Piece → Option (List Piece) → Option (List Piece)
before p none = none
before p (some ps) = some (p ∷ ps)

unfoldable pub after : Next → (List ℕ → Option (List Piece)) → Option (List Piece)
after (goes p k) f = before p (f k)
after ends f = some []
after outside f = none

-- the number only bounds the steps: a text's length is enough
unfoldable pub lex_steps : ℕ → List ℕ → Option (List Piece)
lex_steps zero t = after (next t) (λ k. none)
lex_steps (suc n) t = after (next t) (λ k. lex_steps n k)

unfoldable pub lex : List ℕ → Option (List Piece)
lex t = lex_steps (length t) t
