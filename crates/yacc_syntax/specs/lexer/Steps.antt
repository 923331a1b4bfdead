-- What the lexer's steps answer, in the terms of module text.
use Rattle.std.specs.Prelude.{ℕ, suc, ◌+◌, ◌-◌, ◌≤◌, ◌<◌, Bool, true, false, ◌≡◌, List, [], ◌∷◌, Option as Answered, Some, None, length, get_or, take, drop, eqb}
use Rattle.std.proofs.Math.Option.{Option, none, some}
use Rattle.yacc_syntax.specs.text.Grammar.{named, quoted, Token, ident, token, start, mark, colon, bar, semi, closes}
use Rattle.yacc_syntax.specs.text.Places.{Placed, placed_from}
use Rattle.yacc_syntax.specs.declared.lexer.Word.{Word}
use Rattle.yacc_syntax.specs.declared.lexer.Word.TheVariants.{Name, Literal, Token as TheToken, Start, Mark, Colon, Bar, Semi}
use Rattle.yacc_syntax.specs.declared.lexer.Piece.{Piece}
use Rattle.yacc_syntax.specs.declared.lexer.Piece.TheVariants.{Gap, Word as AWord, End, Outside}
use Rattle.yacc_syntax.specs.declared.lexer.Next.{Next}
use Rattle.yacc_syntax.specs.declared.lexer.Next.TheVariants.{Token as Lexed, End as Ends, Outside as NoToken}

-- a word at the front of a text
unfoldable pub begins : List ℕ → List ℕ → Bool
begins [] t = true
begins (p ∷ ps) [] = false
begins (p ∷ ps) (b ∷ t) = elim (eqb p b) [ true ↦ begins ps t | false ↦ false ]

-- the place behind a comment's end, where its bytes stand from place `at` on
unfoldable pub behind_comment : ℕ → List ℕ → Option ℕ
behind_comment at [] = none
behind_comment at (b ∷ bs) = elim (closes b bs) [ true ↦ some (at + 2) | false ↦ elim (eqb b 0) [ true ↦ none | false ↦ behind_comment (suc at) bs ] ]

unfoldable pub found_at : Answered ℕ → Option ℕ
found_at (Some p) = some p
found_at None = none

-- the token that stands from a place up to another
unfoldable pub token_at : List ℕ → Word → ℕ → ℕ → Token
token_at t Name from past = ident (named (get_or t from 0) (take (past - (from + 1)) (drop (from + 1) t)))
token_at t Literal from past = ident (quoted (get_or t (from + 1) 0))
token_at t TheToken from past = token
token_at t Start from past = start
token_at t Mark from past = mark
token_at t Colon from past = colon
token_at t Bar from past = bar
token_at t Semi from past = semi

-- a token in front of those that follow
unfoldable pub front : Token → ℕ → ℕ → Option (List Placed) → Option (List Placed)
front k from past none = none
front k from past (some ps) = some (record { token = k; from = from; past = past } ∷ ps)

-- a token at `from`, and behind it at `past` the others
pub record Leads (t : List ℕ) (at : ℕ) (w : Word) (from past : ℕ) : Type 0 where
  pub order : at ≤ from
  pub wide : from < past
  pub inside : past ≤ length t
  pub is : placed_from t at ≡ front (token_at t w from past) from past (placed_from t past)

-- nothing but a gap up to `past`
pub record Skips (t : List ℕ) (at past : ℕ) : Type 0 where
  pub wide : at < past
  pub inside : past ≤ length t
  pub is : placed_from t at ≡ placed_from t past

unfoldable pub Steps : List ℕ → ℕ → Piece → Type 0
Steps t at (Gap past) = Skips t at past
Steps t at (AWord w past) = Leads t at w at past
Steps t at End = placed_from t at ≡ some []
Steps t at Outside = placed_from t at ≡ none

unfoldable pub Told : List ℕ → ℕ → Next → Type 0
Told t at (Lexed k) = Leads t at k.word k.from k.past
Told t at Ends = placed_from t at ≡ some []
Told t at NoToken = placed_from t at ≡ none
