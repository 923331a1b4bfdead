-- The yacc text that is written of a table (docs/YACC.md, What is written), token by token.
use Rattle.std.specs.Prelude.{ℕ, zero, suc, Bool, true, false, ◌&&◌, List, [], ◌∷◌, ◌++◌, map, leb}
use Rattle.lr1_base.specs.repr.Lists.{below, joined}
use Rattle.lr1_base.specs.repr.Meaning.{Symbol, nonterminal, terminal, Production, Table}
use Rattle.lr1_base.specs.numerals.Numeral.{numeral}
use Rattle.yacc_syntax.specs.text.Grammar.{Id, named, Token, ident, token, mark, colon, semi, Piece, white, piece, spell_all}

-- bytes of a written text at most
abbrev pub text_most : ℕ
text_most = 9468

-- 23: a nonterminal without productions, or whose first one is not above the one before's; from production lo on
unfoldable pub ascending : ℕ → List (List ℕ) → Bool
ascending lo [] = true
ascending lo ([] ∷ ns) = false
ascending lo ((p ∷ ps) ∷ ns) = leb lo p && ascending (suc p) ns

-- N0, N1, .. and T0, T1, ..: decimal without leading zeros
unfoldable pub name_of : Symbol → Id
name_of (nonterminal n) = named 78 (numeral n)
name_of (terminal n) = named 84 (numeral n)

abbrev pub name_token : Symbol → Token
name_token s = ident (name_of s)

-- the lines' words: `%token T0 T1 ..` unless there is no terminal; `%%`; each production by number
unfoldable pub token_line : ℕ → List (List Token)
token_line zero = []
token_line (suc n) = (token ∷ map (λ t. name_token (terminal t)) (below (suc n))) ∷ []

unfoldable pub production_line : Production → List Token
production_line p = name_token (nonterminal p.nonterminal) ∷ colon ∷ (map name_token p.symbols ++ (semi ∷ []))

unfoldable pub lines : Table → List (List Token)
lines T = token_line T.terminals ++ ((mark ∷ []) ∷ map production_line T.productions)

-- words one space apart, byte 10 at the end
unfoldable pub spaced : List Token → List Piece
spaced ts = joined (λ t. white 32 ∷ piece t ∷ []) ts ++ (white 10 ∷ [])

unfoldable pub line : List Token → List Piece
line [] = white 10 ∷ []
line (t ∷ ts) = piece t ∷ spaced ts

unfoldable pub pieces_of : Table → List Piece
pieces_of T = joined line (lines T)

unfoldable pub text_of : Table → List ℕ
text_of T = spell_all (pieces_of T)
