-- One piece at a place of a text, and the tokens from there on.
use Prim.Native.Nat.{ℕ, ◌+◌, ◌-◌, ◌≤◌, ◌<◌}
use native.Mathlib.Omega.{arith}
use mathlib.Core.Bool.{Bool, true, false, ◌&&◌}
use mathlib.Core.Path.{◌≡◌, refl, sym, ap, ◌∙◌}
use mathlib.Core.List.{List, [], ◌∷◌, ◌++◌, append-nil}
use mathlib.Core.Option.{Option, none, some}
use lib.Dec.{eqb}
use lib.ListN.{length, get_or, take, drop, length-append, length-take, length-drop, drop_of_length-le}
use lib.Seq.{drop-drop}
use borrow.Author.Tests.{eq-eqb, ne_eqb}
use Rattle.yacc_syntax.specs.text.Grammar.{Kind, blank, letter, digit, quote, percent, slash, colons, bars, semis, other, kind_of, named, quoted, Token, ident, token, start, mark, colon, bar, semi, Piece, white, comment, piece, spell_id, spell_token, spell_piece, literal_byte, stops}
use Rattle.yacc_syntax.specs.text.Lex.{Next, goes, ends, outside, run_of, past_run, strip, literal_if, next_literal, word_if, start_or, token_or, mark_or, in_comment, comment_or, next_of, next, before, after, lex}
use Rattle.yacc_syntax.specs.text.Places.{width_of, placed, placed_in, placed_from}
use Rattle.yacc_syntax.proofs.text.Lexing.{lex-step}
use Rattle.yacc_syntax.specs.lexer.Steps.{begins, behind_comment, token_at, front, Leads, Skips, Steps}
use Rattle.yacc_syntax.specs.declared.lexer.Word.{Word}
use Rattle.yacc_syntax.specs.declared.lexer.Piece.{Piece as Piece'}
use Rattle.yacc_syntax.specs.declared.lexer.Piece.TheVariants.{Gap, Word as AWord, End, Outside}
use Rattle.yacc_syntax.specs.declared.lexer.Word.TheVariants.{Name, Literal, Token as TheToken, Start, Mark, Colon, Bar, Semi}
use Rattle.yacc_syntax.proofs.lexer.Runs.{drop-next, run_taken, begins-strip, begins-none, begins_long, comment-ends, comment_endless}
use Rattle.lr1_base.specs.numerals.Numeral.{is_digit_byte}

-- from a step of `next` to the tokens with their places
lexed : (t : List ℕ) (at : ℕ) (x : Next) → next (drop at t) ≡ x → placed_from t at ≡ placed_in at (after x lex)
unfolding placed_from
lexed t at x e = ap (placed_in at) (lex-step (drop at t) ∙ ap (λ (y : Next). after y lex) e)

pub out_step : (t : List ℕ) (at : ℕ) → next (drop at t) ≡ outside → placed_from t at ≡ none
unfolding after placed_in
out_step t at e = lexed t at outside e

pub end_step : (t : List ℕ) (at : ℕ) → length t ≤ at → placed_from t at ≡ some []
unfolding after placed_in placed next
end_step t at h = lexed t at ends (ap next (drop_of_length-le t h))

white-before : (at b : ℕ) (o : Option (List Piece)) → placed_in at (before (white b) o) ≡ placed_in (at + 1) o
unfolding placed_in before placed width_of spell_piece
white-before at b none = refl
white-before at b (some ps) = refl

comment_width : (cs : List ℕ) → width_of (comment cs) ≡ length cs + 4
unfolding width_of spell_piece
comment_width cs = let l = length-append cs (42 ∷ 47 ∷ []) in omega arith

comment-before : (at : ℕ) (cs : List ℕ) (o : Option (List Piece)) → placed_in at (before (comment cs) o) ≡ placed_in (at + (length cs + 4)) o
unfolding placed_in before placed
comment-before at cs none = refl
comment-before at cs (some ps) = ap (λ (w : ℕ). some (placed (at + w) ps)) (comment_width cs)

token-before : (at : ℕ) (k : Token) (o : Option (List Piece)) → placed_in at (before (piece k) o) ≡ front k at (at + width_of (piece k)) (placed_in (at + width_of (piece k)) o)
unfolding placed_in before placed front
token-before at k none = refl
token-before at k (some ps) = refl

token-step : (t : List ℕ) (at past : ℕ) (k : Token) → next (drop at t) ≡ goes (piece k) (drop past t) → past ≡ at + width_of (piece k) → placed_from t at ≡ front k at past (placed_from t past)
unfolding after placed_from
token-step t at past k e w =
    lexed t at (goes (piece k) (drop past t)) e
    ∙ token-before at k (lex (drop past t))
    ∙ ap (λ (p : ℕ). front k at p (placed_in p (lex (drop past t)))) (sym w)

short : (k : List ℕ) → length k < 2 → next_literal k ≡ outside
unfolding next_literal
short [] l = refl
short (c ∷ []) l = refl
short (c ∷ d ∷ k) l = absurd (omega arith)

-- what stands at a place, by the kind of its byte
module _ (t : List ℕ) (at : ℕ) (h : at < length t) where
  next_at : (κ : Kind) → kind_of (get_or t at 0) ≡ κ → next (drop at t) ≡ next_of κ (get_or t at 0) (drop (at + 1) t)
  unfolding next
  next_at κ e = ap next (drop-next t at h) ∙ ap (λ (x : Kind). next_of x (get_or t at 0) (drop (at + 1) t)) e

  pub at_white : kind_of (get_or t at 0) ≡ blank → Skips t at (at + 1)
  unfolding next_of after placed_from
  at_white e = record {
    wide = omega arith;
    inside = omega arith;
    is = lexed t at (goes (white (get_or t at 0)) (drop (at + 1) t)) (next_at blank e) ∙ white-before at (get_or t at 0) (lex (drop (at + 1) t));
  }

  at_digit : kind_of (get_or t at 0) ≡ digit → placed_from t at ≡ none
  unfolding next_of
  at_digit e = out_step t at (next_at digit e)

  at_other : kind_of (get_or t at 0) ≡ other → placed_from t at ≡ none
  unfolding next_of
  at_other e = out_step t at (next_at other e)

  -- a digit, or what is no sign
  pub at_none : (d : Bool) → is_digit_byte (get_or t at 0) ≡ d → (is_digit_byte (get_or t at 0) ≡ true → kind_of (get_or t at 0) ≡ digit) → (is_digit_byte (get_or t at 0) ≡ false → kind_of (get_or t at 0) ≡ other) → placed_from t at ≡ none
  at_none true e f g = at_digit (f e)
  at_none false e f g = at_other (g e)

  pub at_colon : kind_of (get_or t at 0) ≡ colons → Leads t at Colon at (at + 1)
  unfolding next_of token_at width_of spell_piece spell_token
  at_colon e = record { order = omega arith; wide = omega arith; inside = omega arith; is = token-step t at (at + 1) colon (next_at colons e) refl }

  pub at_bar : kind_of (get_or t at 0) ≡ bars → Leads t at Bar at (at + 1)
  unfolding next_of token_at width_of spell_piece spell_token
  at_bar e = record { order = omega arith; wide = omega arith; inside = omega arith; is = token-step t at (at + 1) bar (next_at bars e) refl }

  pub at_semi : kind_of (get_or t at 0) ≡ semis → Leads t at Semi at (at + 1)
  unfolding next_of token_at width_of spell_piece spell_token
  at_semi e = record { order = omega arith; wide = omega arith; inside = omega arith; is = token-step t at (at + 1) semi (next_at semis e) refl }

  -- a name
  pub at_letter : kind_of (get_or t at 0) ≡ letter → (past : ℕ) → past ≡ at + 1 + length (run_of (drop (at + 1) t)) → Leads t at Name at past
  unfolding next_of token_at width_of spell_piece spell_token spell_id
  at_letter e past p =
      let k = drop (at + 1) t in
      let R = run_taken k in
      let n : past - (at + 1) ≡ length (run_of k) = omega arith in
      let q : past_run k ≡ drop past t = R.1 ∙ drop-drop (length (run_of k)) (at + 1) t ∙ ap (λ (m : ℕ). drop m t) (sym p) in
      let r : run_of k ≡ take (past - (at + 1)) k = R.0 ∙ ap (λ (m : ℕ). take m k) (sym n) in
      let l : length k ≡ length t - (at + 1) = length-drop (at + 1) t in
      let x : length (run_of k) ≡ length (take (length (run_of k)) k) = ap length R.0 in
      let y = length-take (length (run_of k)) k in
      let w : length (run_of k ++ []) ≡ length (run_of k) = ap length (append-nil (run_of k)) in
      record {
        order = omega arith;
        wide = omega arith;
        inside = omega arith;
        is = token-step t at past (ident (named (get_or t at 0) (run_of k))) (next_at letter e ∙ ap (goes (piece (ident (named (get_or t at 0) (run_of k))))) q) (omega arith)
            ∙ ap (λ (ns : List ℕ). front (ident (named (get_or t at 0) ns)) at past (placed_from t past)) r;
      }

  -- a literal
  pub literal_short : kind_of (get_or t at 0) ≡ quote → length t < at + 3 → placed_from t at ≡ none
  unfolding next_of
  literal_short e s = out_step t at (next_at quote e ∙ short (drop (at + 1) t) (let l = length-drop (at + 1) t in omega arith))

  module _ (e : kind_of (get_or t at 0) ≡ quote) (l : at + 3 ≤ length t) where
    literal_is : next (drop at t) ≡ literal_if (literal_byte (get_or t (at + 1) 0) && eqb (get_or t (at + 2) 0) 39) (get_or t (at + 1) 0) (drop (at + 3) t)
    unfolding next_of next_literal
    literal_is =
        let a : at + 1 + 1 ≡ at + 2 = omega arith in
        let b : at + 2 + 1 ≡ at + 3 = omega arith in
        next_at quote e
        ∙ ap next_literal (drop-next t (at + 1) (omega arith) ∙ ap (λ (m : ℕ). get_or t (at + 1) 0 ∷ drop m t) a ∙ ap (λ (k : List ℕ). get_or t (at + 1) 0 ∷ k) (drop-next t (at + 2) (omega arith) ∙ ap (λ (m : ℕ). get_or t (at + 2) 0 ∷ drop m t) b))

    pub literal_bad : (r : Bool) → r ≡ literal_byte (get_or t (at + 1) 0) → r ≡ false → placed_from t at ≡ none
    unfolding literal_if
    literal_bad r q n = out_step t at (literal_is ∙ ap (λ (x : Bool). literal_if (x && eqb (get_or t (at + 2) 0) 39) (get_or t (at + 1) 0) (drop (at + 3) t)) (sym q ∙ n))

    module _ (r : Bool) (q : r ≡ literal_byte (get_or t (at + 1) 0)) (y : r ≡ true) where
      byte_known : (b : Bool) → eqb (get_or t (at + 2) 0) 39 ≡ b → next (drop at t) ≡ literal_if b (get_or t (at + 1) 0) (drop (at + 3) t)
      byte_known b f =
          literal_is
          ∙ ap (λ (x : Bool). literal_if (x && eqb (get_or t (at + 2) 0) 39) (get_or t (at + 1) 0) (drop (at + 3) t)) (sym q ∙ y)
          ∙ ap (λ (x : Bool). literal_if x (get_or t (at + 1) 0) (drop (at + 3) t)) f

      pub literal_open : (get_or t (at + 2) 0 ≡ 39 → ⊥) → placed_from t at ≡ none
      unfolding literal_if
      literal_open n = out_step t at (byte_known false (ne_eqb (get_or t (at + 2) 0) 39 n))

      pub literal_whole : get_or t (at + 2) 0 ≡ 39 → Leads t at Literal at (at + 3)
      unfolding literal_if token_at width_of spell_piece spell_token spell_id
      literal_whole f = record {
        order = omega arith;
        wide = omega arith;
        inside = omega arith;
        is = token-step t at (at + 3) (ident (quoted (get_or t (at + 1) 0))) (byte_known true (eq-eqb (get_or t (at + 2) 0) 39 f)) refl;
      }

  -- a word behind the first byte, up to n
  module _ (ps : List ℕ) (n : ℕ) (p : n ≡ at + 1 + length ps) (r : Bool) (q : r ≡ begins ps (drop (at + 1) t)) where
    word-yes : r ≡ true → (strip ps (drop (at + 1) t) ≡ some (drop n t)) × (n ≤ length t)
    word-yes y =
        let b = begins-strip ps (drop (at + 1) t) (sym q ∙ y) in
        let l = begins_long ps (drop (at + 1) t) (sym q ∙ y) in
        let d = length-drop (at + 1) t in
        (b ∙ ap some (drop-drop (length ps) (at + 1) t ∙ ap (λ (m : ℕ). drop m t) (sym p)), omega arith)

    word_no : r ≡ false → strip ps (drop (at + 1) t) ≡ none
    word_no z = begins-none ps (drop (at + 1) t) (sym q ∙ z)

  -- `%%`, `%token`, `%start`
  module _ (e : kind_of (get_or t at 0) ≡ percent) (r : Bool) (q : r ≡ begins (37 ∷ []) (drop (at + 1) t)) where
    pub at_mark : r ≡ true → Leads t at Mark at (at + 2)
    unfolding next_of mark_or token_at width_of spell_piece spell_token
    at_mark y =
        let w = word-yes (37 ∷ []) (at + 2) (omega arith) r q y in
        record {
          order = omega arith;
          wide = omega arith;
          inside = w.1;
          is = token-step t at (at + 2) mark (next_at percent e ∙ ap (λ (o : Option (List ℕ)). mark_or o (drop (at + 1) t)) w.0) refl;
        }

    module _ (z : r ≡ false) where
      no_mark : next (drop at t) ≡ token_or (strip (116 ∷ 111 ∷ 107 ∷ 101 ∷ 110 ∷ []) (drop (at + 1) t)) (drop (at + 1) t)
      unfolding next_of mark_or
      no_mark = next_at percent e ∙ ap (λ (o : Option (List ℕ)). mark_or o (drop (at + 1) t)) (word_no (37 ∷ []) (at + 2) (omega arith) r q z)

      module _ (u : Bool) (v : u ≡ begins (116 ∷ 111 ∷ 107 ∷ 101 ∷ 110 ∷ []) (drop (at + 1) t)) where
        is_token : (s : Bool) → s ≡ stops (drop (at + 6) t) → u ≡ true → next (drop at t) ≡ word_if s token (drop (at + 6) t)
        unfolding token_or
        is_token s f y =
            no_mark
            ∙ ap (λ (o : Option (List ℕ)). token_or o (drop (at + 1) t)) (word-yes (116 ∷ 111 ∷ 107 ∷ 101 ∷ 110 ∷ []) (at + 6) (omega arith) u v y).0
            ∙ ap (λ (b : Bool). word_if b token (drop (at + 6) t)) (sym f)

        pub at_token_lem : (s : Bool) → s ≡ stops (drop (at + 6) t) → u ≡ true → s ≡ true → Leads t at TheToken at (at + 6)
        unfolding word_if token_at width_of spell_piece spell_token
        at_token_lem s f y x = record {
          order = omega arith;
          wide = omega arith;
          inside = (word-yes (116 ∷ 111 ∷ 107 ∷ 101 ∷ 110 ∷ []) (at + 6) (omega arith) u v y).1;
          is = token-step t at (at + 6) token (is_token s f y ∙ ap (λ (b : Bool). word_if b token (drop (at + 6) t)) x) refl;
        }

        pub token_joined : (s : Bool) → s ≡ stops (drop (at + 6) t) → u ≡ true → s ≡ false → placed_from t at ≡ none
        unfolding word_if
        token_joined s f y x = out_step t at (is_token s f y ∙ ap (λ (b : Bool). word_if b token (drop (at + 6) t)) x)

        module _ (n : u ≡ false) (a : Bool) (b : a ≡ begins (115 ∷ 116 ∷ 97 ∷ 114 ∷ 116 ∷ []) (drop (at + 1) t)) where
          no_token_lem : next (drop at t) ≡ start_or (strip (115 ∷ 116 ∷ 97 ∷ 114 ∷ 116 ∷ []) (drop (at + 1) t))
          unfolding token_or
          no_token_lem = no_mark ∙ ap (λ (o : Option (List ℕ)). token_or o (drop (at + 1) t)) (word_no (116 ∷ 111 ∷ 107 ∷ 101 ∷ 110 ∷ []) (at + 6) (omega arith) u v n)

          is_start : (s : Bool) → s ≡ stops (drop (at + 6) t) → a ≡ true → next (drop at t) ≡ word_if s start (drop (at + 6) t)
          unfolding start_or
          is_start s f y =
              no_token_lem
              ∙ ap start_or (word-yes (115 ∷ 116 ∷ 97 ∷ 114 ∷ 116 ∷ []) (at + 6) (omega arith) a b y).0
              ∙ ap (λ (x : Bool). word_if x start (drop (at + 6) t)) (sym f)

          pub at_start : (s : Bool) → s ≡ stops (drop (at + 6) t) → a ≡ true → s ≡ true → Leads t at Start at (at + 6)
          unfolding word_if token_at width_of spell_piece spell_token
          at_start s f y x = record {
            order = omega arith;
            wide = omega arith;
            inside = (word-yes (115 ∷ 116 ∷ 97 ∷ 114 ∷ 116 ∷ []) (at + 6) (omega arith) a b y).1;
            is = token-step t at (at + 6) start (is_start s f y ∙ ap (λ (c : Bool). word_if c start (drop (at + 6) t)) x) refl;
          }

          pub start_joined : (s : Bool) → s ≡ stops (drop (at + 6) t) → a ≡ true → s ≡ false → placed_from t at ≡ none
          unfolding word_if
          start_joined s f y x = out_step t at (is_start s f y ∙ ap (λ (c : Bool). word_if c start (drop (at + 6) t)) x)

          pub no_directive : a ≡ false → placed_from t at ≡ none
          unfolding start_or
          no_directive x = out_step t at (no_token_lem ∙ ap start_or (word_no (115 ∷ 116 ∷ 97 ∷ 114 ∷ 116 ∷ []) (at + 6) (omega arith) a b x))

  -- a comment
  module _ (e : kind_of (get_or t at 0) ≡ slash) (r : Bool) (q : r ≡ begins (42 ∷ []) (drop (at + 1) t)) where
    pub no_comment : r ≡ false → placed_from t at ≡ none
    unfolding next_of comment_or
    no_comment z = out_step t at (next_at slash e ∙ ap comment_or (word_no (42 ∷ []) (at + 2) (omega arith) r q z))

    module _ (y : r ≡ true) where
      comment-opens : next (drop at t) ≡ in_comment (drop (at + 2) t)
      unfolding next_of comment_or
      comment-opens = next_at slash e ∙ ap comment_or (word-yes (42 ∷ []) (at + 2) (omega arith) r q y).0

      pub comment-inside : at + 2 ≤ length t
      comment-inside = (word-yes (42 ∷ []) (at + 2) (omega arith) r q y).1

      pub endless : none ≡ behind_comment (at + 2) (drop (at + 2) t) → placed_from t at ≡ none
      endless f = out_step t at (comment-opens ∙ comment_endless (drop (at + 2) t) (at + 2) (sym f))

      pub at_comment : (past : ℕ) → some past ≡ behind_comment (at + 2) (drop (at + 2) t) → Skips t at past
      unfolding after placed_from
      at_comment past f =
          let E = comment-ends (drop (at + 2) t) (at + 2) past (sym f) in
          let p = E.place in
          let l = E.long in
          let i = comment-inside in
          let d = length-drop (at + 2) t in
          let z : at + 2 + (past - (at + 2)) ≡ past = omega arith in
          let w : at + (length E.bytes + 4) ≡ past = omega arith in
          let k : drop (past - (at + 2)) (drop (at + 2) t) ≡ drop past t = drop-drop (past - (at + 2)) (at + 2) t ∙ ap (λ (m : ℕ). drop m t) z in
          record {
            wide = omega arith;
            inside = omega arith;
            is = lexed t at (goes (comment E.bytes) (drop past t)) (comment-opens ∙ E.is ∙ ap (goes (comment E.bytes)) k)
                ∙ comment-before at E.bytes (lex (drop past t))
                ∙ ap (λ (m : ℕ). placed_in m (lex (drop past t))) w;
          }

-- `next_token`: what a piece tells of the tokens
pub gap_told : (t : List ℕ) (i : ℕ) (r : Piece') (past : ℕ) → r ≡ Gap past → Steps t i r → Skips t i past
unfolding Steps
gap_told t i r past e S = rw e at S

pub word-told : (t : List ℕ) (at i : ℕ) (r : Piece') (w : Word) (past : ℕ) → at ≤ i → placed_from t at ≡ placed_from t i → r ≡ AWord w past → Steps t i r → Leads t at w i past
unfolding Steps
word-told t at i r w past h q e S =
    let L : Leads t i w i past = rw e at S in
    record { order = h; wide = L.wide; inside = L.inside; is = q ∙ L.is }

pub end_told : (t : List ℕ) (at i : ℕ) (r : Piece') → placed_from t at ≡ placed_from t i → r ≡ End → Steps t i r → placed_from t at ≡ some []
unfolding Steps
end_told t at i r q e S = q ∙ (rw e at S)

pub out-told : (t : List ℕ) (at i : ℕ) (r : Piece') → placed_from t at ≡ placed_from t i → r ≡ Outside → Steps t i r → placed_from t at ≡ none
unfolding Steps
out-told t at i r q e S = q ∙ (rw e at S)
