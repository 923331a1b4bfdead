-- The automaton accepts exactly the texts of the grammar; from every live state some bytes lead on to one, and a dead one stays dead.
use Prim.Native.Nat.{ℕ, zero, suc, ◌≤◌, ◌<◌}
use native.Mathlib.Omega.{arith}
use mathlib.Core.Bool.{Bool, true, false, ◌&&◌, not, and-false}
use mathlib.Core.Path.{◌≡◌, refl, sym, ap, ◌∙◌}
use mathlib.Core.List.{List, [], ◌∷◌}
use mathlib.Core.Option.{Option, none, some}
use lib.Dec.{eqb}
use lib.ListN.{length}
use borrow.Author.Tests.{eqb-true, ne_eqb}
use Rattle.lr1_base.proofs.repr.Lists.{cases}
use Rattle.yacc_syntax.specs.text.Grammar.{Kind, blank, letter, digit, quote, percent, slash, colons, bars, semis, other, kind_of, goes_on_byte, named, quoted, Token, ident, token, start, mark, Piece, white, comment, piece, tokens_in, closes, slash_next, literal_byte, stops}
use Rattle.yacc_syntax.specs.text.Lex.{Next, goes, ends, outside, rest, run_of, past_run, strip, literal_if, next_literal, word_if, start_or, token_or, mark_or, longer, in_comment, comment_or, next_of, next, before, after, lex}
use Rattle.yacc_syntax.specs.text.Forward.{Mode, top, wanted, listed, starting, ruled, sided, bodied, done, dead, sides, move, last, accepts}
use Rattle.yacc_syntax.proofs.text.Lexing.{past_more, past_none, strip-yes, strip_no, shorter, Reads, next_sound, lex-step}
use Rattle.yacc_syntax.specs.error_position.Automaton.{Part, between, run, signed, word, opened, filled, slashed, inside, starred, State, at, lost, signs, marks, step_kind, step_signed, step_word, step_inside, step_part, step, fed, ending, final, ok}

-- the branch that a test takes
yes : (o : Bool) (x y : State) (bs : List ℕ) → o ≡ true → ok (elim o [ true ↦ x | false ↦ y ]) bs ≡ ok x bs
yes o x y bs e = ap (λ (p : Bool). ok (elim p [ true ↦ x | false ↦ y ]) bs) e

no_branch : (o : Bool) (x y : State) (bs : List ℕ) → o ≡ false → ok (elim o [ true ↦ x | false ↦ y ]) bs ≡ ok y bs
no_branch o x y bs e = ap (λ (p : Bool). ok (elim p [ true ↦ x | false ↦ y ]) bs) e

-- dead stays dead
dead_kind : (κ : Kind) → (step_kind κ dead).mode ≡ dead
unfolding step_kind signs move
dead_kind blank = refl
dead_kind letter = refl
dead_kind digit = refl
dead_kind quote = refl
dead_kind percent = refl
dead_kind slash = refl
dead_kind colons = refl
dead_kind bars = refl
dead_kind semis = refl
dead_kind other = refl

abbrev mode_in : State → Mode
mode_in s = s.mode

either : (o : Bool) (x y : State) → x.mode ≡ dead → y.mode ≡ dead → mode_in (elim o [ true ↦ x | false ↦ y ]) ≡ dead
either true x y e f = e
either false x y e f = f

dead-inside : (b : ℕ) → (step_inside dead b).mode ≡ dead
unfolding step_inside
dead-inside b = either (eqb b 42) (at dead starred) _ refl (either (eqb b 0) lost (at dead inside) refl refl)

dead_part : (p : Part) (b : ℕ) → (step_part p dead b).mode ≡ dead
unfolding step_part step_signed step_word marks move
dead_part between b = dead_kind (kind_of b)
dead_part run b = either (goes_on_byte (kind_of b)) (at dead run) (step_kind (kind_of b) dead) refl (dead_kind (kind_of b))
dead_part signed b = either (eqb 37 b) lost _ refl (either (eqb 116 b) (at dead (word (111 ∷ 107 ∷ 101 ∷ 110 ∷ []))) _ refl (either (eqb 115 b) (at dead (word (116 ∷ 97 ∷ 114 ∷ 116 ∷ []))) lost refl refl))
dead_part (word []) b = either (goes_on_byte (kind_of b)) lost (step_kind (kind_of b) dead) refl (dead_kind (kind_of b))
dead_part (word (w ∷ ws)) b = either (eqb w b) (at dead (word ws)) lost refl refl
dead_part opened b = either (literal_byte b) (at dead filled) lost refl refl
dead_part filled b = either (eqb b 39) lost lost refl refl
dead_part slashed b = either (eqb 42 b) (at dead inside) lost refl refl
dead_part inside b = dead-inside b
dead_part starred b = either (eqb b 47) lost (step_inside dead b) refl (dead-inside b)

pub ok-dead : (bs : List ℕ) (s : State) → s.mode ≡ dead → ok s bs ≡ false
unfolding fed final last
ok-dead [] s e = ap (λ (m : Mode). ending s.part && last m) e ∙ and-false (ending s.part)
ok-dead (b ∷ bs) s e = ok-dead bs (step s b) (ap (λ (m : Mode). (step_part s.part m b).mode) e ∙ dead_part s.part b)

-- one piece: what the lexer says of the text's front
through : Mode → Piece → Mode
through m (white b) = m
through m (comment cs) = m
through m (piece t) = move m t

ok_next : Mode → Next → Bool
ok_next m (goes p k) = ok (at (through m p) between) k
ok_next m ends = last m
ok_next m outside = false

-- a name
run_ok : (bs : List ℕ) (m : Mode) → ok (at m run) bs ≡ ok (at m between) (past_run bs)
unfolding fed final ending step_part past_run
run_ok [] m = refl
run_ok (b ∷ bs) m =
    cases (goes_on_byte (kind_of b))
    (λ e. yes (goes_on_byte (kind_of b)) (at m run) (step_kind (kind_of b) m) bs e ∙ run_ok bs m ∙ ap (ok (at m between)) (sym (past_more b bs e)))
    (λ e. no_branch (goes_on_byte (kind_of b)) (at m run) (step_kind (kind_of b) m) bs e ∙ ap (ok (at m between)) (sym (past_none b bs e)))

name_moves : (m : Mode) (n : ℕ) (ns : List ℕ) → move m (ident (named 0 [])) ≡ move m (ident (named n ns))
unfolding move sides
name_moves (top s) n ns = refl
name_moves (wanted s) n ns = refl
name_moves (listed s) n ns = refl
name_moves starting n ns = refl
name_moves ruled n ns = refl
name_moves sided n ns = refl
name_moves bodied n ns = refl
name_moves done n ns = refl
name_moves dead n ns = refl

-- a literal
literal_moves : (m : Mode) (c : ℕ) → move m (ident (quoted 0)) ≡ move m (ident (quoted c))
unfolding move sides
literal_moves (top s) c = refl
literal_moves (wanted s) c = refl
literal_moves (listed s) c = refl
literal_moves starting c = refl
literal_moves ruled c = refl
literal_moves sided c = refl
literal_moves bodied c = refl
literal_moves done c = refl
literal_moves dead c = refl

literal_by : (m : Mode) (c d : ℕ) (k : List ℕ) (o : Bool) → ok (elim o [ true ↦ at (move m (ident (quoted 0))) filled | false ↦ lost ]) (d ∷ k) ≡ ok_next m (literal_if (o && eqb d 39) c k)
unfolding fed step_part literal_if ok_next through
literal_by m c d k true =
    cases (eqb d 39)
    (λ e. yes (eqb d 39) (at (move m (ident (quoted 0))) between) lost k e ∙ ap (λ (n : Mode). ok (at n between) k) (literal_moves m c) ∙ ap (λ (q : Bool). ok_next m (literal_if q c k)) (sym e))
    (λ e. no_branch (eqb d 39) (at (move m (ident (quoted 0))) between) lost k e ∙ ok-dead k lost refl ∙ ap (λ (q : Bool). ok_next m (literal_if q c k)) (sym e))
literal_by m c d k false = ok-dead (d ∷ k) lost refl

literal_cut : (m : Mode) (o : Bool) → ok (elim o [ true ↦ at m filled | false ↦ lost ]) [] ≡ false
unfolding fed final ending last
literal_cut m true = refl
literal_cut m false = refl

literal_ok : (bs : List ℕ) (m : Mode) → ok (at (move m (ident (quoted 0))) opened) bs ≡ ok_next m (next_literal bs)
unfolding fed final ending step_part next_literal ok_next
literal_ok [] m = refl
literal_ok (c ∷ []) m = literal_cut (move m (ident (quoted 0))) (literal_byte c)
literal_ok (c ∷ d ∷ k) m = literal_by m c d k (literal_byte c)

-- a word: its bytes, and no letter and no digit behind it
ok_word : Mode → Option (List ℕ) → Bool
ok_word m none = false
ok_word m (some k) = elim (stops k) [ true ↦ ok (at m between) k | false ↦ false ]

word_by : (o : Bool) (x : State) (bs : List ℕ) → ok (elim o [ true ↦ lost | false ↦ x ]) bs ≡ elim (not o) [ true ↦ ok x bs | false ↦ false ]
word_by true x bs = ok-dead bs lost refl
word_by false x bs = refl

word_ok : (ws bs : List ℕ) (m : Mode) → ok (at m (word ws)) bs ≡ ok_word m (strip ws bs)
unfolding fed final ending step_part step_word strip ok_word stops
word_ok [] [] m = refl
word_ok [] (b ∷ bs) m = word_by (goes_on_byte (kind_of b)) (step_kind (kind_of b) m) bs
word_ok (w ∷ ws) [] m = refl
word_ok (w ∷ ws) (b ∷ bs) m =
    cases (eqb w b)
    (λ e. yes (eqb w b) (at m (word ws)) lost bs e ∙ word_ok ws bs m ∙ ap (ok_word m) (sym (strip-yes w ws b bs e)))
    (λ e. no_branch (eqb w b) (at m (word ws)) lost bs e ∙ ok-dead bs lost refl ∙ ap (ok_word m) (sym (strip_no w ws b bs e)))

abbrev oken : List ℕ
oken = 111 ∷ 107 ∷ 101 ∷ 110 ∷ []

abbrev tart : List ℕ
tart = 116 ∷ 97 ∷ 114 ∷ 116 ∷ []

word_if_lem : (o : Bool) (t : Token) (k : List ℕ) (m : Mode) → elim o [ true ↦ ok (at (move m t) between) k | false ↦ false ] ≡ ok_next m (word_if o t k)
unfolding word_if ok_next through
word_if_lem true t k m = refl
word_if_lem false t k m = refl

start_or_lem : (o : Option (List ℕ)) (m : Mode) → ok_word (move m start) o ≡ ok_next m (start_or o)
unfolding ok_word start_or ok_next
start_or_lem none m = refl
start_or_lem (some k) m = word_if_lem (stops k) start k m

token_or_lem : (o : Option (List ℕ)) (bs : List ℕ) (m : Mode) → strip (115 ∷ tart) bs ≡ none → ok_word (move m token) o ≡ ok_next m (token_or o bs)
unfolding ok_word start_or token_or ok_next
token_or_lem none bs m e = ap (λ (o : Option (List ℕ)). ok_next m (start_or o)) (sym e)
token_or_lem (some k) bs m e = word_if_lem (stops k) token k m

-- behind a `%`
not_start : (b : ℕ) → eqb 116 b ≡ true → eqb 115 b ≡ false
not_start b e = let q = eqb-true 116 b e in ne_eqb 115 b (λ i. omega arith)

sign_ok : (bs : List ℕ) (m : Mode) → marks m ≡ move m mark → ok (at m signed) bs ≡ ok_next m (mark_or (strip (37 ∷ []) bs) bs)
unfolding fed final ending step_part step_signed strip mark_or token_or start_or ok_next through
sign_ok [] m h = refl
sign_ok (b ∷ bs) m h =
    cases (eqb 37 b)
    (λ e. yes (eqb 37 b) (at (marks m) between) _ bs e ∙ ap (λ (n : Mode). ok (at n between) bs) h ∙ ap (λ (o : Option (List ℕ)). ok_next m (mark_or o (b ∷ bs))) (sym (strip-yes 37 [] b bs e)))
    (λ e. no_branch (eqb 37 b) (at (marks m) between) _ bs e ∙ sign_word ∙ ap (λ (o : Option (List ℕ)). ok_next m (mark_or o (b ∷ bs))) (sym (strip_no 37 [] b bs e)))
  where
    sign_start : ok (elim (eqb 115 b) [ true ↦ at (move m start) (word tart) | false ↦ lost ]) bs ≡ ok_next m (start_or (strip (115 ∷ tart) (b ∷ bs)))
    sign_start =
        cases (eqb 115 b)
        (λ e. yes (eqb 115 b) (at (move m start) (word tart)) lost bs e ∙ word_ok tart bs (move m start) ∙ ap (ok_word (move m start)) (sym (strip-yes 115 tart b bs e)) ∙ start_or_lem (strip (115 ∷ tart) (b ∷ bs)) m)
        (λ e. no_branch (eqb 115 b) (at (move m start) (word tart)) lost bs e ∙ ok-dead bs lost refl ∙ ap (λ (o : Option (List ℕ)). ok_next m (start_or o)) (sym (strip_no 115 tart b bs e)))

    sign_word : ok (elim (eqb 116 b) [ true ↦ at (move m token) (word oken) | false ↦ elim (eqb 115 b) [ true ↦ at (move m start) (word tart) | false ↦ lost ] ]) bs ≡ ok_next m (token_or (strip (116 ∷ oken) (b ∷ bs)) (b ∷ bs))
    sign_word =
        cases (eqb 116 b)
        (λ e. yes (eqb 116 b) (at (move m token) (word oken)) _ bs e ∙ word_ok oken bs (move m token) ∙ ap (ok_word (move m token)) (sym (strip-yes 116 oken b bs e)) ∙ token_or_lem (strip (116 ∷ oken) (b ∷ bs)) (b ∷ bs) m (strip_no 115 tart b bs (not_start b e)))
        (λ e. no_branch (eqb 116 b) (at (move m token) (word oken)) _ bs e ∙ sign_start ∙ ap (λ (o : Option (List ℕ)). ok_next m (token_or o (b ∷ bs))) (sym (strip_no 116 oken b bs e)))

-- a mode that takes no directive answers as the dead one
module _ (m : Mode) (a : move m mark ≡ dead) (b : move m token ≡ dead) (c : move m start ≡ dead) where
  none-start : (o : Option (List ℕ)) → ok_next dead (start_or o) ≡ ok_next m (start_or o)
  unfolding start_or move
  none-start o = sym (start_or_lem o dead) ∙ ap (λ (n : Mode). ok_word n o) (sym c) ∙ start_or_lem o m

  none-word : (o : Option (List ℕ)) (bs : List ℕ) → ok_next dead (token_or o bs) ≡ ok_next m (token_or o bs)
  unfolding token_or ok_word move
  none-word none bs = none-start (strip (115 ∷ tart) bs)
  none-word (some k) bs = sym (word_if_lem (stops k) token k dead) ∙ ap (λ (n : Mode). ok_word n (some k)) (sym b) ∙ word_if_lem (stops k) token k m

  none-mark : (o : Option (List ℕ)) (bs : List ℕ) → ok_next dead (mark_or o bs) ≡ ok_next m (mark_or o bs)
  unfolding mark_or ok_next through move
  none-mark none bs = none-word (strip (116 ∷ oken) bs) bs
  none-mark (some k) bs = ap (λ (n : Mode). ok (at n between) k) (sym a)

  shut_ok : (bs : List ℕ) → ok (at dead signed) bs ≡ ok_next m (mark_or (strip (37 ∷ []) bs) bs)
  unfolding marks move
  shut_ok bs = sign_ok bs dead refl ∙ none-mark (strip (37 ∷ []) bs) bs

signs-ok : (m : Mode) (bs : List ℕ) → ok (at (signs m) signed) bs ≡ ok_next m (mark_or (strip (37 ∷ []) bs) bs)
unfolding signs marks move sides
signs-ok (top s) bs = sign_ok bs (top s) refl
signs-ok (wanted s) bs = shut_ok (wanted s) refl refl refl bs
signs-ok (listed s) bs = sign_ok bs (listed s) refl
signs-ok starting bs = shut_ok starting refl refl refl bs
signs-ok ruled bs = shut_ok ruled refl refl refl bs
signs-ok sided bs = shut_ok sided refl refl refl bs
signs-ok bodied bs = shut_ok bodied refl refl refl bs
signs-ok done bs = shut_ok done refl refl refl bs
signs-ok dead bs = shut_ok dead refl refl refl bs

-- a comment: what it says of its own bytes
ok_comment : Mode → Next → Bool
ok_comment m (goes (comment cs) k) = ok (at m between) k
ok_comment m (goes (white b) k) = false
ok_comment m (goes (piece t) k) = false
ok_comment m ends = false
ok_comment m outside = false

comment-longer : (m : Mode) (b : ℕ) (x : Next) → ok_comment m (longer b x) ≡ ok_comment m x
unfolding ok_comment longer
comment-longer m b (goes (comment cs) k) = refl
comment-longer m b (goes (white c) k) = refl
comment-longer m b (goes (piece t) k) = refl
comment-longer m b ends = refl
comment-longer m b outside = refl

longer-next : (m : Mode) (b : ℕ) (x : Next) → ok_comment m (longer b x) ≡ ok_next m (longer b x)
unfolding ok_comment ok_next longer through
longer-next m b (goes (comment cs) k) = refl
longer-next m b (goes (white c) k) = refl
longer-next m b (goes (piece t) k) = refl
longer-next m b ends = refl
longer-next m b outside = refl

comment-next : (m : Mode) (bs : List ℕ) → ok_comment m (in_comment bs) ≡ ok_next m (in_comment bs)
unfolding ok_comment ok_next in_comment through
comment-next m [] = refl
comment-next m (b ∷ bs) = by (closes b bs) (eqb b 0)
  where
    by : (o z : Bool) → ok_comment m (elim o [ true ↦ goes (comment []) (rest bs) | false ↦ elim z [ true ↦ outside | false ↦ longer b (in_comment bs) ] ]) ≡ ok_next m (elim o [ true ↦ goes (comment []) (rest bs) | false ↦ elim z [ true ↦ outside | false ↦ longer b (in_comment bs) ] ])
    by true z = refl
    by false true = refl
    by false false = longer-next m b (in_comment bs)

star_ok : (bs : List ℕ) (m : Mode) → ok (at m starred) bs ≡ elim (slash_next bs) [ true ↦ ok (at m between) (rest bs) | false ↦ ok (at m inside) bs ]
unfolding fed final ending step_part slash_next rest
star_ok [] m = refl
star_ok (b ∷ bs) m = by (eqb b 47)
  where
    by : (o : Bool) → ok (elim o [ true ↦ at m between | false ↦ step_inside m b ]) bs ≡ elim o [ true ↦ ok (at m between) bs | false ↦ ok (step_inside m b) bs ]
    by true = refl
    by false = refl

comment-ok : (bs : List ℕ) (m : Mode) → ok (at m inside) bs ≡ ok_comment m (in_comment bs)
unfolding fed final ending step_part step_inside in_comment ok_comment closes
comment-ok [] m = refl
comment-ok (b ∷ bs) m = by (eqb b 42) (slash_next bs) (eqb b 0) refl refl refl (star_ok bs m) (comment-ok bs m)
  where
    -- the byte is a `*`, a `/` follows, it is 0
    by : (o p z : Bool) → eqb b 42 ≡ o → slash_next bs ≡ p → eqb b 0 ≡ z → ok (at m starred) bs ≡ elim p [ true ↦ ok (at m between) (rest bs) | false ↦ ok (at m inside) bs ] → ok (at m inside) bs ≡ ok_comment m (in_comment bs) → ok (elim o [ true ↦ at m starred | false ↦ elim z [ true ↦ lost | false ↦ at m inside ] ]) bs ≡ ok_comment m (elim (o && p) [ true ↦ goes (comment []) (rest bs) | false ↦ elim z [ true ↦ outside | false ↦ longer b (in_comment bs) ] ])
    by true true z e f g h ih = h
    by true false true e f g h ih = absurd (omega (arith, eqb-true b 42 e, eqb-true b 0 g))
    by true false false e f g h ih = h ∙ ih ∙ sym (comment-longer m b (in_comment bs))
    by false p true e f g h ih = ok-dead bs lost refl
    by false p false e f g h ih = ih ∙ sym (comment-longer m b (in_comment bs))

slash-ok : (bs : List ℕ) (m : Mode) → ok (at m slashed) bs ≡ ok_next m (comment_or (strip (42 ∷ []) bs))
unfolding fed final ending step_part strip comment_or ok_next
slash-ok [] m = refl
slash-ok (b ∷ bs) m =
    cases (eqb 42 b)
    (λ e. yes (eqb 42 b) (at m inside) lost bs e ∙ comment-ok bs m ∙ comment-next m bs ∙ ap (λ (o : Option (List ℕ)). ok_next m (comment_or o)) (sym (strip-yes 42 [] b bs e)))
    (λ e. no_branch (eqb 42 b) (at m inside) lost bs e ∙ ok-dead bs lost refl ∙ ap (λ (o : Option (List ℕ)). ok_next m (comment_or o)) (sym (strip_no 42 [] b bs e)))

-- a piece of any kind
kind_ok : (κ : Kind) (b : ℕ) (bs : List ℕ) (m : Mode) → ok (step_kind κ m) bs ≡ ok_next m (next_of κ b bs)
unfolding step_kind next_of ok_next through
kind_ok blank b bs m = refl
kind_ok letter b bs m = run_ok bs (move m (ident (named 0 []))) ∙ ap (λ (n : Mode). ok (at n between) (past_run bs)) (name_moves m b (run_of bs))
kind_ok digit b bs m = ok-dead bs lost refl
kind_ok quote b bs m = literal_ok bs m
kind_ok percent b bs m = signs-ok m bs
kind_ok slash b bs m = slash-ok bs m
kind_ok colons b bs m = refl
kind_ok bars b bs m = refl
kind_ok semis b bs m = refl
kind_ok other b bs m = ok-dead bs lost refl

next-ok : (t : List ℕ) (m : Mode) → ok (at m between) t ≡ ok_next m (next t)
unfolding fed final ending step_part next ok_next
next-ok [] m = refl
next-ok (b ∷ bs) m = kind_ok (kind_of b) b bs m

-- piece after piece
abbrev pub ok_pieces : Mode → Option (List Piece) → Bool
ok_pieces m o = elim o [ none ↦ false | some ps ↦ accepts m (tokens_in ps) ]

pieces_before : (m : Mode) (p : Piece) (o : Option (List Piece)) → ok_pieces (through m p) o ≡ ok_pieces m (before p o)
unfolding before through tokens_in accepts
pieces_before m (white b) none = refl
pieces_before m (white b) (some ps) = refl
pieces_before m (comment cs) none = refl
pieces_before m (comment cs) (some ps) = refl
pieces_before m (piece t) none = refl
pieces_before m (piece t) (some ps) = refl

after-ok : (x : Next) (t : List ℕ) (m : Mode) → Reads x t → ((k : List ℕ) (n : Mode) → length k < length t → ok (at n between) k ≡ ok_pieces n (lex k)) → ok_next m x ≡ ok_pieces m (after x lex)
unfolding ok_next after tokens_in accepts
after-ok (goes p k) t m R h = let s = shorter p k in let e = ap length R.2 in h k (through m p) (omega arith) ∙ pieces_before m p (lex k)
after-ok ends t m R h = refl
after-ok outside t m R h = refl

steps_ok : (n : ℕ) (t : List ℕ) (m : Mode) → length t ≤ n → ok (at m between) t ≡ ok_pieces m (lex t)
steps_ok zero t m a = next-ok t m ∙ after-ok (next t) t m (next_sound t) (λ k o l. absurd (omega arith)) ∙ ap (ok_pieces m) (sym (lex-step t))
steps_ok (suc n) t m a = next-ok t m ∙ after-ok (next t) t m (next_sound t) (λ k o l. steps_ok n k o (omega arith)) ∙ ap (ok_pieces m) (sym (lex-step t))

pub pieces_ok : (t : List ℕ) (m : Mode) → ok (at m between) t ≡ ok_pieces m (lex t)
pieces_ok t m = steps_ok (length t) t m (omega arith)
