-- The loop's turns; a text of the grammar is one that the loop accepts.
use Prim.Native.Nat.{ℕ, ◌+◌}
use mathlib.Core.Bool.{Bool, true, false, true≢false}
use mathlib.Core.Logic.{◌⊎◌, inl, inr}
use mathlib.Core.Path.{◌≡◌, refl, sym, ap, ◌∙◌}
use mathlib.Core.List.{List, [], ◌∷◌, map}
use mathlib.Core.Option.{Option, none, some}
use Rattle.yacc_syntax.specs.text.Grammar.{Token, Piece, white, comment, piece, tokens_in, File, Layout}
use Rattle.yacc_syntax.specs.text.Lex.{lex}
use Rattle.yacc_syntax.specs.text.Parse.{run, file_of, laid, parsed, parse}
use Rattle.yacc_syntax.specs.text.Forward.{Mode, top, begins, sides, move, last, accepts}
use Rattle.yacc_syntax.specs.text.Places.{Placed, width_of, placed, placed_in, placed_from}
use Rattle.yacc_syntax.proofs.text.Forward.{accepts-found}
use Rattle.yacc_syntax.specs.lexer.Steps.{token_at, front, Leads, Told}
use Rattle.yacc_syntax.specs.declared.lexer.lexeme.Lexeme.{Lexeme}
use Rattle.yacc_syntax.specs.declared.lexer.Next.{Next}
use Rattle.yacc_syntax.specs.declared.lexer.Next.TheVariants.{Token as Lexed, End as Ends, Outside as NoToken}
use Rattle.yacc_syntax.specs.declared.lexer.Word.{Word}
use Rattle.yacc_syntax.specs.declared.lexer.Word.TheVariants.{Name, Literal, Token as TheToken, Start, Mark, Colon, Bar, Semi}
use Rattle.std.proofs.Common.{cond}
use Rattle.yacc_syntax.specs.recognizer.Accepted.{mode_of, judged, is_grammar_text}
use Rattle.yacc_syntax.specs.declared.recognizer.Mode.{Mode as Mode'}
use Rattle.yacc_syntax.specs.declared.recognizer.Mode.TheVariants.{Top, Wanted, Listed, Starting, Ruled, Sided, Bodied, Done, Dead}

-- where a word leads, as `moved` answers
abbrev pub moves : Mode' → Word → Mode'
moves (Top s) w = elim w [ Name ↦ Dead | Literal ↦ Dead | TheToken ↦ Wanted s | Start ↦ cond s Dead Starting | Mark ↦ Ruled | Colon ↦ Dead | Bar ↦ Dead | Semi ↦ Dead ]
moves (Wanted s) w = elim w [ Name ↦ Listed s | Literal ↦ Listed s | TheToken ↦ Dead | Start ↦ Dead | Mark ↦ Dead | Colon ↦ Dead | Bar ↦ Dead | Semi ↦ Dead ]
moves (Listed s) w = elim w [ Name ↦ Listed s | Literal ↦ Listed s | TheToken ↦ Wanted s | Start ↦ cond s Dead Starting | Mark ↦ Ruled | Colon ↦ Dead | Bar ↦ Dead | Semi ↦ Dead ]
moves Starting w = elim w [ Name ↦ Top true | Literal ↦ Top true | TheToken ↦ Dead | Start ↦ Dead | Mark ↦ Dead | Colon ↦ Dead | Bar ↦ Dead | Semi ↦ Dead ]
moves Ruled w = elim w [ Name ↦ Sided | Literal ↦ Dead | TheToken ↦ Dead | Start ↦ Dead | Mark ↦ Dead | Colon ↦ Dead | Bar ↦ Dead | Semi ↦ Dead ]
moves Sided w = elim w [ Name ↦ Dead | Literal ↦ Dead | TheToken ↦ Dead | Start ↦ Dead | Mark ↦ Dead | Colon ↦ Bodied | Bar ↦ Dead | Semi ↦ Dead ]
moves Bodied w = elim w [ Name ↦ Bodied | Literal ↦ Bodied | TheToken ↦ Dead | Start ↦ Dead | Mark ↦ Dead | Colon ↦ Dead | Bar ↦ Bodied | Semi ↦ Done ]
moves Done w = elim w [ Name ↦ Sided | Literal ↦ Dead | TheToken ↦ Dead | Start ↦ Dead | Mark ↦ Dead | Colon ↦ Dead | Bar ↦ Dead | Semi ↦ Dead ]
moves Dead w = Dead

by_seen : (s : Bool) → begins s ≡ mode_of (cond s Dead Starting)
unfolding begins
by_seen true = refl
by_seen false = refl

abbrev Moved : Mode' → List ℕ → ℕ → ℕ → Word → Type 0
Moved m t from past w = move (mode_of m) (token_at t w from past) ≡ mode_of (moves m w)

pub moves_is : (m : Mode') (w : Word) (t : List ℕ) (from past : ℕ) → move (mode_of m) (token_at t w from past) ≡ mode_of (moves m w)
unfolding move sides token_at
moves_is (Top s) w t from past = elim w as (Moved (Top s) t from past) [ Name ↦ refl | Literal ↦ refl | TheToken ↦ refl | Start ↦ by_seen s | Mark ↦ refl | Colon ↦ refl | Bar ↦ refl | Semi ↦ refl ]
moves_is (Wanted s) w t from past = elim w as (Moved (Wanted s) t from past) [ Name ↦ refl | Literal ↦ refl | TheToken ↦ refl | Start ↦ refl | Mark ↦ refl | Colon ↦ refl | Bar ↦ refl | Semi ↦ refl ]
moves_is (Listed s) w t from past = elim w as (Moved (Listed s) t from past) [ Name ↦ refl | Literal ↦ refl | TheToken ↦ refl | Start ↦ by_seen s | Mark ↦ refl | Colon ↦ refl | Bar ↦ refl | Semi ↦ refl ]
moves_is Starting w t from past = elim w as (Moved Starting t from past) [ Name ↦ refl | Literal ↦ refl | TheToken ↦ refl | Start ↦ refl | Mark ↦ refl | Colon ↦ refl | Bar ↦ refl | Semi ↦ refl ]
moves_is Ruled w t from past = elim w as (Moved Ruled t from past) [ Name ↦ refl | Literal ↦ refl | TheToken ↦ refl | Start ↦ refl | Mark ↦ refl | Colon ↦ refl | Bar ↦ refl | Semi ↦ refl ]
moves_is Sided w t from past = elim w as (Moved Sided t from past) [ Name ↦ refl | Literal ↦ refl | TheToken ↦ refl | Start ↦ refl | Mark ↦ refl | Colon ↦ refl | Bar ↦ refl | Semi ↦ refl ]
moves_is Bodied w t from past = elim w as (Moved Bodied t from past) [ Name ↦ refl | Literal ↦ refl | TheToken ↦ refl | Start ↦ refl | Mark ↦ refl | Colon ↦ refl | Bar ↦ refl | Semi ↦ refl ]
moves_is Done w t from past = elim w as (Moved Done t from past) [ Name ↦ refl | Literal ↦ refl | TheToken ↦ refl | Start ↦ refl | Mark ↦ refl | Colon ↦ refl | Bar ↦ refl | Semi ↦ refl ]
moves_is Dead w t from past = refl

pub last-other : (m : Mode') → (m ≡ Done → ⊥) → false ≡ last (mode_of m)
unfolding last
last-other (Top s) n = refl
last-other (Wanted s) n = refl
last-other (Listed s) n = refl
last-other Starting n = refl
last-other Ruled n = refl
last-other Sided n = refl
last-other Bodied n = refl
last-other Done n = absurd (n refl)
last-other Dead n = refl

-- the loop's turns
judged-front : (m : Mode) (k : Token) (from past : ℕ) (o : Option (List Placed)) → judged m (front k from past o) ≡ judged (move m k) o
unfolding judged front accepts
judged-front m k from past none = refl
judged-front m k from past (some ps) = refl

pub token-told : (t : List ℕ) (at : ℕ) (x : Next) (k : Lexeme) → x ≡ Lexed k → Told t at x → Leads t at k.word k.from k.past
unfolding Told
token-told t at x k e T = rw e at T

module _ (t : List ℕ) (at : ℕ) (m : Mode) (r : Bool) (inv : judged m (placed_from t at) ≡ r) where
  pub turn : (w : Word) (from past : ℕ) (n : Mode) → Leads t at w from past → n ≡ move m (token_at t w from past) → judged n (placed_from t past) ≡ r
  turn w from past n L e =
      ap (λ (k : Mode). judged k (placed_from t past)) e
      ∙ sym (ap (judged m) L.is ∙ judged-front m (token_at t w from past) from past (placed_from t past))
      ∙ inv

  pub turn_ends : (x : Next) → x ≡ Ends → Told t at x → last m ≡ r
  unfolding Told judged accepts
  turn_ends x e T = let p : placed_from t at ≡ some [] = rw e at T in sym (ap (judged m) p) ∙ inv

  pub turn_outside : (x : Next) → x ≡ NoToken → Told t at x → false ≡ r
  unfolding Told judged
  turn_outside x e T = let p : placed_from t at ≡ none = rw e at T in sym (ap (judged m) p) ∙ inv

-- no token is left of a text that is accepted
pub told_ends : (t : List ℕ) (at : ℕ) (m : Mode) → judged m (placed_from t at) ≡ true → (x : Next) → (x ≡ Ends) ⊎ (x ≡ NoToken) → Told t at x → placed_from t at ≡ some []
unfolding Told
told_ends t at m j x (inl e) T = rw e at T
told_ends t at m j x (inr e) T = absurd (true≢false (sym (turn_outside t at m true j x e T)))

-- a text that is accepted is one that has a layout
pub tokens-placed : (at : ℕ) (ps : List Piece) → map (λ p. p.token) (placed at ps) ≡ tokens_in ps
unfolding placed tokens_in
tokens-placed at [] = refl
tokens-placed at (white b ∷ ps) = tokens-placed (at + width_of (white b)) ps
tokens-placed at (comment cs ∷ ps) = tokens-placed (at + width_of (comment cs)) ps
tokens-placed at (piece k ∷ ps) = ap (λ (l : List Token). k ∷ l) (tokens-placed (at + width_of (piece k)) ps)

abbrev laid? : Option Layout → Bool
laid? o = elim o [ none ↦ false | some l ↦ true ]

laid-found : (ps : List Piece) (o : Option File) → elim o [ none ↦ false | some f ↦ true ] ≡ laid? (laid ps o)
unfolding laid
laid-found ps none = refl
laid-found ps (some f) = refl

by_pieces : (o : Option (List Piece)) → judged (top false) (placed_in 0 o) ≡ laid? (parsed o)
unfolding judged placed_in parsed
by_pieces none = refl
by_pieces (some ps) = ap (accepts (top false)) (tokens-placed 0 ps) ∙ accepts-found (tokens_in ps) ∙ laid-found ps (file_of (run (tokens_in ps)))

pub judged-whole : (t : List ℕ) → judged (top false) (placed_from t 0) ≡ is_grammar_text t
unfolding placed_from is_grammar_text parse
judged-whole t = by_pieces (lex t)
