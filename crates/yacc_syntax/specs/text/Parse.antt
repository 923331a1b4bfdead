-- The layout of a text as a function: its pieces by `lex`, then the tokens from the last to the first.
use Rattle.std.specs.Prelude.{ℕ, true, false, List, [], ◌∷◌}
use Rattle.std.proofs.Math.Option.{Option, none, some}
use Rattle.yacc_syntax.specs.text.Grammar.{Id, named, quoted, Token, ident, token, start, mark, colon, bar, semi, Piece, Rule, rule, Def, starts, tokens, File, one_start, tokens_in, Layout}
use Rattle.yacc_syntax.specs.text.Lex.{lex}

-- what the tokens behind a place are: whole rules; bodies up to a `;`; those behind a `:`; ids, definitions and the rules
pub data State : Type 0 where
  behind : List Rule → State
  body : List Id → List (List Id) → List Rule → State
  left : List Id → List (List Id) → List Rule → State
  head : List Id → List Def → Rule → List Rule → State
  bad : State

unfoldable pub left_side : Id → List Id → List (List Id) → List Rule → State
left_side (named n ns) b cs rs = behind (rule n ns b cs ∷ rs)
left_side (quoted q) b cs rs = bad

unfoldable pub marked : List Rule → State
marked [] = bad
marked (r ∷ rs) = head [] [] r rs

unfoldable pub declared : List Id → List Def → Rule → List Rule → State
declared [] ds r rs = bad
declared (x ∷ xs) ds r rs = head [] (tokens x xs ∷ ds) r rs

unfoldable pub begun : List Id → List Def → Rule → List Rule → State
begun [] ds r rs = bad
begun (x ∷ []) ds r rs = head [] (starts x ∷ ds) r rs
begun (x ∷ y ∷ xs) ds r rs = bad

unfoldable pub step : Token → State → State
step t (behind rs) = elim t [ ident x ↦ bad | token ↦ bad | start ↦ bad | mark ↦ marked rs | colon ↦ bad | bar ↦ bad | semi ↦ body [] [] rs ]
step t (body b cs rs) = elim t [ ident x ↦ body (x ∷ b) cs rs | token ↦ bad | start ↦ bad | mark ↦ bad | colon ↦ left b cs rs | bar ↦ body [] (b ∷ cs) rs | semi ↦ bad ]
step t (left b cs rs) = elim t [ ident x ↦ left_side x b cs rs | token ↦ bad | start ↦ bad | mark ↦ bad | colon ↦ bad | bar ↦ bad | semi ↦ bad ]
step t (head xs ds r rs) = elim t [ ident x ↦ head (x ∷ xs) ds r rs | token ↦ declared xs ds r rs | start ↦ begun xs ds r rs | mark ↦ bad | colon ↦ bad | bar ↦ bad | semi ↦ bad ]
step t bad = bad

unfoldable pub run : List Token → State
run [] = behind []
run (t ∷ ts) = step t (run ts)

unfoldable pub whole : List Id → List Def → Rule → List Rule → Option File
whole [] ds r rs = elim (one_start ds) [ true ↦ some (record { defs = ds; first = r; more = rs }) | false ↦ none ]
whole (x ∷ xs) ds r rs = none

unfoldable pub file_of : State → Option File
file_of (behind rs) = none
file_of (body b cs rs) = none
file_of (left b cs rs) = none
file_of (head xs ds r rs) = whole xs ds r rs
file_of bad = none

unfoldable pub laid : List Piece → Option File → Option Layout
laid ps none = none
laid ps (some f) = some (record { pieces = ps; file = f })

unfoldable pub parsed : Option (List Piece) → Option Layout
parsed none = none
parsed (some ps) = laid ps (file_of (run (tokens_in ps)))

unfoldable pub parse : List ℕ → Option Layout
parse t = parsed (lex t)
