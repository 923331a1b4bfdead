-- What a word says is its event; the turns of a loop over the tokens; what a text says whole.
use Prim.Native.Nat.{ℕ}
use mathlib.Core.Bool.{true, false}
use mathlib.Core.Path.{◌≡◌, refl, sym, ap, ◌∙◌, subst}
use mathlib.Core.List.{List, [], ◌++◌}
use mathlib.Core.Option.{Option, none, some}
use Rattle.yacc_syntax.specs.text.Grammar.{Token, Piece, Layout, File, tokens_in}
use Rattle.yacc_syntax.specs.text.Places.{Placed, placed, placed_in, placed_from}
use Rattle.yacc_syntax.specs.text.Forward.{Mode, top, wanted, listed, starting, ruled, sided, bodied, done, dead, move}
use Rattle.yacc_syntax.specs.text.Lex.{lex}
use Rattle.yacc_syntax.specs.text.Parse.{run, file_of, laid, parsed, parse}
use Rattle.yacc_syntax.specs.lexer.Steps.{token_at, front, Leads, Told}
use Rattle.yacc_syntax.specs.declared.lexer.Next.{Next}
use Rattle.yacc_syntax.specs.declared.lexer.Next.TheVariants.{End as Ends, Outside as NoToken}
use Rattle.yacc_syntax.specs.declared.lexer.Word.{Word}
use Rattle.yacc_syntax.specs.declared.lexer.Word.TheVariants.{Name, Literal, Token as TheToken, Start, Mark, Colon, Bar, Semi}
use Rattle.yacc_syntax.specs.recognizer.Accepted.{mode_of, judged}
use Rattle.yacc_reader.specs.parsed_file.Events.{Event, event_of, events}
use Rattle.std.specs.Prelude.{Some, None}
use Rattle.yacc_reader.specs.declared.events.Token.{Token as Heard}
use Rattle.yacc_reader.specs.declared.events.TokenIter.{TokenIter}
use Rattle.yacc_reader.specs.events.Tokens.{Reads, Gives}
use Rattle.yacc_reader.specs.events.Said.{id_said, end_said, said_in, id_at, events_of, of_said}

-- what a word says is its event
abbrev Says : List ℕ → ℕ → ℕ → Word → Mode → Type 0
Says t from past w m = event_of m (token_at t w from past) from past ≡ events_of (said_in m w) (id_at t w from past) from past

pub said_event : (m : Mode) (w : Word) (t : List ℕ) (from past : ℕ) → event_of m (token_at t w from past) from past ≡ events_of (said_in m w) (id_at t w from past) from past
unfolding event_of token_at events_of said_in id_said end_said id_at
said_event m Name t from past = elim m as (Says t from past Name) [ top s ↦ refl | wanted s ↦ refl | listed s ↦ refl | starting ↦ refl | ruled ↦ refl | sided ↦ refl | bodied ↦ refl | done ↦ refl | dead ↦ refl ]
said_event m Literal t from past = elim m as (Says t from past Literal) [ top s ↦ refl | wanted s ↦ refl | listed s ↦ refl | starting ↦ refl | ruled ↦ refl | sided ↦ refl | bodied ↦ refl | done ↦ refl | dead ↦ refl ]
said_event m TheToken t from past = elim m as (Says t from past TheToken) [ top s ↦ refl | wanted s ↦ refl | listed s ↦ refl | starting ↦ refl | ruled ↦ refl | sided ↦ refl | bodied ↦ refl | done ↦ refl | dead ↦ refl ]
said_event m Start t from past = elim m as (Says t from past Start) [ top s ↦ refl | wanted s ↦ refl | listed s ↦ refl | starting ↦ refl | ruled ↦ refl | sided ↦ refl | bodied ↦ refl | done ↦ refl | dead ↦ refl ]
said_event m Mark t from past = elim m as (Says t from past Mark) [ top s ↦ refl | wanted s ↦ refl | listed s ↦ refl | starting ↦ refl | ruled ↦ refl | sided ↦ refl | bodied ↦ refl | done ↦ refl | dead ↦ refl ]
said_event m Colon t from past = elim m as (Says t from past Colon) [ top s ↦ refl | wanted s ↦ refl | listed s ↦ refl | starting ↦ refl | ruled ↦ refl | sided ↦ refl | bodied ↦ refl | done ↦ refl | dead ↦ refl ]
said_event m Bar t from past = elim m as (Says t from past Bar) [ top s ↦ refl | wanted s ↦ refl | listed s ↦ refl | starting ↦ refl | ruled ↦ refl | sided ↦ refl | bodied ↦ refl | done ↦ refl | dead ↦ refl ]
said_event m Semi t from past = elim m as (Says t from past Semi) [ top s ↦ refl | wanted s ↦ refl | listed s ↦ refl | starting ↦ refl | ruled ↦ refl | sided ↦ refl | bodied ↦ refl | done ↦ refl | dead ↦ refl ]

-- the turns of a loop over the tokens
module _ {ℓ} {A : Type ℓ} (z : A) where
  pub said_same : (f g : List Event → A) → ((es : List Event) → f es ≡ g es) → (m : Mode) (o : Option (List Placed)) → of_said z f m o ≡ of_said z g m o
  unfolding of_said
  said_same f g q m none = refl
  said_same f g q m (some ps) = q (events m ps)

  said-front : (f : List Event → A) (m : Mode) (k : Token) (from past : ℕ) (o : Option (List Placed)) → of_said z f m (front k from past o) ≡ of_said z (λ es. f (event_of m k from past ++ es)) (move m k) o
  unfolding of_said front events
  said-front f m k from past none = refl
  said-front f m k from past (some ps) = refl

  module _ (t : List ℕ) (at : ℕ) (m : Mode) (f : List Event → A) (r : A) (inv : of_said z f m (placed_from t at) ≡ r) where
    -- g goes on where f was, behind what the word said
    pub said_turn : (g : List Event → A) (w : Word) (from past : ℕ) (n : Mode) → Leads t at w from past → n ≡ move m (token_at t w from past) → ((es : List Event) → g es ≡ f (events_of (said_in m w) (id_at t w from past) from past ++ es)) → of_said z g n (placed_from t past) ≡ r
    said_turn g w from past n L e q =
        ap (λ (k : Mode). of_said z g k (placed_from t past)) e
        ∙ said_same g (λ es. f (event_of m (token_at t w from past) from past ++ es)) (λ es. q es ∙ sym (ap (λ (l : List Event). f (l ++ es)) (said_event m w t from past))) (move m (token_at t w from past)) (placed_from t past)
        ∙ sym (ap (of_said z f m) L.is ∙ said-front f m (token_at t w from past) from past (placed_from t past))
        ∙ inv

    pub said_ends : placed_from t at ≡ some [] → f [] ≡ r
    unfolding of_said events
    said_ends p = sym (ap (of_said z f m) p) ∙ inv

    pub said-ends : (x : Next) → x ≡ Ends → Told t at x → f [] ≡ r
    unfolding Told
    said-ends x e T = said_ends (rw e at T)

    pub said-outside : (x : Next) → x ≡ NoToken → Told t at x → z ≡ r
    unfolding Told of_said
    said-outside x e T = let p : placed_from t at ≡ none = rw e at T in sym (ap (of_said z f m) p) ∙ inv

-- the words of a text t, one after the other
module _ (t : List ℕ) (s : TokenIter) (e : s.text.now ≡ t) where
  pub read_in : (k : Heard) (u : TokenIter) → Gives s (Some k) u → Reads t s k u
  unfolding Gives
  read_in k u G = subst (λ (x : List ℕ). Reads x s k u) e G

  pub judged_in : judged (mode_of s.mode) (placed_from t s.at) ≡ true
  judged_in = subst (λ (x : List ℕ). judged (mode_of s.mode) (placed_from x s.at) ≡ true) e s.accepted

  pub says_in : (k : Heard) (u : TokenIter) → Reads t s k u → k.what ≡ said_in (mode_of s.mode) k.lexeme.word
  says_in k u R = k.says ∙ ap (λ (m : Mode). said_in m k.lexeme.word) R.in_mode

  pub ends_in : (u : TokenIter) → Gives s None u → placed_from t s.at ≡ some []
  unfolding Gives
  ends_in u G = subst (λ (x : List ℕ). placed_from x s.at ≡ some []) e G

-- what a text of the grammar says
laid_pieces : (ps : List Piece) (o : Option File) (l : Layout) → laid ps o ≡ some l → ps ≡ l.pieces
unfolding laid
laid_pieces ps none l e = ap (λ (o : Option Layout). elim o [ none ↦ ps | some k ↦ l.pieces ]) e
laid_pieces ps (some f) l e = ap (λ (o : Option Layout). elim o [ none ↦ ps | some k ↦ k.pieces ]) e

parsed_pieces : (o : Option (List Piece)) (l : Layout) → parsed o ≡ some l → o ≡ some l.pieces
unfolding parsed
parsed_pieces none l e = ap (λ (o : Option Layout). elim o [ none ↦ none | some k ↦ some l.pieces ]) e
parsed_pieces (some ps) l e = ap some (laid_pieces ps (file_of (run (tokens_in ps))) l e)

pub said-whole {ℓ} : {A : Type ℓ} (z : A) (f : List Event → A) (t : List ℕ) (l : Layout) → parse t ≡ some l → of_said z f (top false) (placed_from t 0) ≡ f (events (top false) (placed 0 l.pieces))
unfolding of_said placed_from placed_in parse
said-whole z f t l e = ap (λ (o : Option (List Piece)). of_said z f (top false) (placed_in 0 o)) (parsed_pieces (lex t) l e)
