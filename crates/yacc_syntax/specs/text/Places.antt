-- The tokens of a text with their places.
use Rattle.std.specs.Prelude.{ℕ, ◌+◌, List, [], ◌∷◌, length, drop}
use Rattle.std.proofs.Math.Option.{Option, none, some}
use Rattle.yacc_syntax.specs.text.Grammar.{Token, Piece, white, comment, piece, spell_piece}
use Rattle.yacc_syntax.specs.text.Lex.{lex}

-- a token, the place of its first byte and the place behind its last; places are of bytes, from 0
pub record Placed : Type 0 where
  pub token : Token
  pub from : ℕ
  pub past : ℕ

unfoldable pub width_of : Piece → ℕ
width_of p = length (spell_piece p [])

-- the tokens of the pieces that stand from place `at` on
unfoldable pub placed : ℕ → List Piece → List Placed
placed at [] = []
placed at (white b ∷ ps) = placed (at + width_of (white b)) ps
placed at (comment cs ∷ ps) = placed (at + width_of (comment cs)) ps
placed at (piece t ∷ ps) = record { token = t; from = at; past = at + width_of (piece t) } ∷ placed (at + width_of (piece t)) ps

-- the tokens of the text from place `at` on
unfoldable pub placed_in : ℕ → Option (List Piece) → Option (List Placed)
placed_in at none = none
placed_in at (some ps) = some (placed at ps)

unfoldable pub placed_from : List ℕ → ℕ → Option (List Placed)
placed_from t at = placed_in at (lex (drop at t))
