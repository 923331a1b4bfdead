-- The lexer is exact: each piece is read back whatever may follow it, and what is read is what stands there.
use Prim.Native.Nat.{ℕ, zero, suc, ◌≤◌, ◌<◌}
use native.Mathlib.Omega.{arith}
use mathlib.Core.Bool.{Bool, true, false, ◌&&◌, not}
use mathlib.Core.Path.{◌≡◌, refl, sym, ap, ◌∙◌, subst}
use mathlib.Core.List.{List, [], ◌∷◌, ◌++◌}
use mathlib.Core.Option.{Option, none, some}
use lib.Dec.{eqb}
use lib.ListN.{length, length-append}
use borrow.Author.Tests.{not-true, eqb-true}
use Rattle.yacc_syntax.specs.text.Grammar.{Kind, blank, letter, digit, quote, percent, slash, colons, bars, semis, other, kind_of, is_white_byte, is_letter_byte, blank?, letter?, goes_on_byte, Id, named, quoted, Token, ident, token, start, mark, colon, bar, semi, Piece, white, comment, piece, spell_id, spell_token, spell_piece, spell_all, all_run, slash_next, closes, clear, literal_byte, ok_id, ok_token, ok_piece, stops, apart_id, apart_token, apart, fits}
use Rattle.yacc_syntax.specs.text.Lex.{Next, goes, ends, outside, rest, run_of, past_run, strip, literal_if, next_literal, word_if, start_or, token_or, mark_or, longer, in_comment, comment_or, next_of, next, before, after, lex_steps, lex}
use Rattle.lr1_base.proofs.laws.Bools.{and-true, both}
use Rattle.lr1_base.specs.numerals.Numeral.{is_digit_byte}

false-true : ◌≡◌ {A = Bool} false true → ⊥
false-true q = let w : ◌≡◌ {A = ℕ} 0 1 = ap (λ (o : Bool). elim o [ false ↦ 0 | true ↦ 1 ]) q in omega arith

-- a name: the longest run
run-stops : (k : List ℕ) → stops k ≡ true → run_of k ≡ []
unfolding run_of stops
run-stops [] e = refl
run-stops (b ∷ k) e = let f : goes_on_byte (kind_of b) ≡ false = not-true (goes_on_byte (kind_of b)) e in rw (f, run_of)

past_stops : (k : List ℕ) → stops k ≡ true → past_run k ≡ k
unfolding past_run stops
past_stops [] e = refl
past_stops (b ∷ k) e = let f : goes_on_byte (kind_of b) ≡ false = not-true (goes_on_byte (kind_of b)) e in rw (f, past_run)

pub run_more : (b : ℕ) (k : List ℕ) → goes_on_byte (kind_of b) ≡ true → run_of (b ∷ k) ≡ b ∷ run_of k
unfolding run_of
run_more b k e = rw (e, run_of)

pub past_more : (b : ℕ) (k : List ℕ) → goes_on_byte (kind_of b) ≡ true → past_run (b ∷ k) ≡ past_run k
unfolding past_run
past_more b k e = rw (e, past_run)

pub run-all : (ns k : List ℕ) → all_run ns ≡ true → stops k ≡ true → run_of (ns ++ k) ≡ ns
unfolding all_run
run-all [] k a e = run-stops k e
run-all (b ∷ ns) k a e = let s = and-true (goes_on_byte (kind_of b)) (all_run ns) a in run_more b (ns ++ k) s.0 ∙ ap (λ (l : List ℕ). b ∷ l) (run-all ns k s.1 e)

pub past_all : (ns k : List ℕ) → all_run ns ≡ true → stops k ≡ true → past_run (ns ++ k) ≡ k
unfolding all_run
past_all [] k a e = past_stops k e
past_all (b ∷ ns) k a e = let s = and-true (goes_on_byte (kind_of b)) (all_run ns) a in past_more b (ns ++ k) s.0 ∙ past_all ns k s.1 e

-- a comment: the first end
slash_same : (cs k : List ℕ) → slash_next (cs ++ (42 ∷ 47 ∷ k)) ≡ slash_next cs
unfolding slash_next
slash_same [] k = refl
slash_same (c ∷ cs) k = refl

pub closes_eq : (b : ℕ) (cs k : List ℕ) → closes b (cs ++ (42 ∷ 47 ∷ k)) ≡ closes b cs
unfolding closes
closes_eq b cs k = ap (λ (s : Bool). eqb b 42 && s) (slash_same cs k)

-- kinds
pub blank_is : (k : Kind) → blank? k ≡ true → k ≡ blank
unfolding blank?
blank_is blank e = refl
blank_is letter e = absurd (false-true e)
blank_is digit e = absurd (false-true e)
blank_is quote e = absurd (false-true e)
blank_is percent e = absurd (false-true e)
blank_is slash e = absurd (false-true e)
blank_is colons e = absurd (false-true e)
blank_is bars e = absurd (false-true e)
blank_is semis e = absurd (false-true e)
blank_is other e = absurd (false-true e)

pub letter_is : (k : Kind) → letter? k ≡ true → k ≡ letter
unfolding letter?
letter_is letter e = refl
letter_is blank e = absurd (false-true e)
letter_is digit e = absurd (false-true e)
letter_is quote e = absurd (false-true e)
letter_is percent e = absurd (false-true e)
letter_is slash e = absurd (false-true e)
letter_is colons e = absurd (false-true e)
letter_is bars e = absurd (false-true e)
letter_is semis e = absurd (false-true e)
letter_is other e = absurd (false-true e)

-- what is left becomes shorter
shorter_id : (x : Id) (k : List ℕ) → length k < length (spell_id x k)
unfolding spell_id
shorter_id (named n ns) k = let l = length-append ns k in omega arith
shorter_id (quoted b) k = omega arith

shorter-token : (t : Token) (k : List ℕ) → length k < length (spell_token t k)
unfolding spell_token
shorter-token (ident x) k = shorter_id x k
shorter-token token k = omega arith
shorter-token start k = omega arith
shorter-token mark k = omega arith
shorter-token colon k = omega arith
shorter-token bar k = omega arith
shorter-token semi k = omega arith

pub shorter : (p : Piece) (k : List ℕ) → length k < length (spell_piece p k)
unfolding spell_piece
shorter (white b) k = omega arith
shorter (comment cs) k = let l = length-append cs (42 ∷ 47 ∷ k) in omega arith
shorter (piece t) k = shorter-token t k

-- one piece is read
next-white : (b : ℕ) (k : List ℕ) → kind_of b ≡ blank → next (b ∷ k) ≡ goes (white b) k
unfolding next next_of
next-white b k e = ap (λ (κ : Kind). next_of κ b k) e

next_name : (b : ℕ) (k : List ℕ) → kind_of b ≡ letter → next (b ∷ k) ≡ goes (piece (ident (named b (run_of k)))) (past_run k)
unfolding next next_of
next_name b k e = ap (λ (κ : Kind). next_of κ b k) e

comment-more : (b : ℕ) (k : List ℕ) → closes b k ≡ false → eqb b 0 ≡ false → in_comment (b ∷ k) ≡ longer b (in_comment k)
unfolding in_comment
comment-more b k e z = rw (e, z, in_comment)

comment-all : (cs k : List ℕ) → clear cs ≡ true → in_comment (cs ++ (42 ∷ 47 ∷ k)) ≡ goes (comment cs) k
unfolding clear in_comment closes slash_next rest longer
comment-all [] k e = refl
comment-all (b ∷ cs) k e =
    let s = and-true (not (closes b cs)) (not (eqb b 0) && clear cs) e in
    let r = and-true (not (eqb b 0)) (clear cs) s.1 in
    comment-more b (cs ++ (42 ∷ 47 ∷ k)) (closes_eq b cs k ∙ not-true (closes b cs) s.0) (not-true (eqb b 0) r.0) ∙ ap (longer b) (comment-all cs k r.1)

next_id : (x : Id) (k : List ℕ) → ok_id x ≡ true → apart_id x k ≡ true → next (spell_id x k) ≡ goes (piece (ident x)) k
unfolding ok_id apart_id spell_id next next_of kind_of is_white_byte is_letter_byte is_digit_byte next_literal literal_if
next_id (named n ns) k o a =
    let s = and-true (letter? (kind_of n)) (all_run ns) o in
    next_name n (ns ++ k) (letter_is (kind_of n) s.0)
    ∙ ap (λ (l : List ℕ). goes (piece (ident (named n l))) (past_run (ns ++ k))) (run-all ns k s.1 a)
    ∙ ap (λ (l : List ℕ). goes (piece (ident (named n ns))) l) (past_all ns k s.1 a)
next_id (quoted b) k o a = ap (λ (t : Bool). literal_if (t && true) b k) o

next_token : (t : Token) (k : List ℕ) → ok_token t ≡ true → apart_token t k ≡ true → next (spell_token t k) ≡ goes (piece t) k
unfolding ok_token apart_token spell_token next next_of kind_of is_white_byte is_letter_byte is_digit_byte strip mark_or token_or start_or word_if
next_token (ident x) k o a = next_id x k o a
next_token token k o a = ap (λ (t : Bool). word_if t token k) a
next_token start k o a = ap (λ (t : Bool). word_if t start k) a
next_token mark k o a = refl
next_token colon k o a = refl
next_token bar k o a = refl
next_token semi k o a = refl

pub next-complete : (p : Piece) (k : List ℕ) → ok_piece p ≡ true → apart p k ≡ true → next (spell_piece p k) ≡ goes p k
unfolding ok_piece apart spell_piece next next_of kind_of is_white_byte is_letter_byte is_digit_byte strip comment_or
next-complete (white b) k o a = next-white b k (blank_is (kind_of b) o)
next-complete (comment cs) k o a = comment-all cs k o
next-complete (piece t) k o a = next_token t k o a

-- what an answer says of the text
abbrev pub Reads : Next → List ℕ → Type 0
Reads (goes p k) t = (ok_piece p ≡ true) × (apart p k ≡ true) × (spell_piece p k ≡ t)
Reads ends t = t ≡ []
Reads outside t = Unit {0}

-- a run
abbrev Run : List ℕ → Type 0
Run bs = (all_run (run_of bs) ≡ true) × (stops (past_run bs) ≡ true) × (run_of bs ++ past_run bs ≡ bs)

pub run_none : (b : ℕ) (k : List ℕ) → goes_on_byte (kind_of b) ≡ false → run_of (b ∷ k) ≡ []
unfolding run_of
run_none b k e = rw (e, run_of)

pub past_none : (b : ℕ) (k : List ℕ) → goes_on_byte (kind_of b) ≡ false → past_run (b ∷ k) ≡ b ∷ k
unfolding past_run
past_none b k e = rw (e, past_run)

stops_here : (b : ℕ) (k : List ℕ) → goes_on_byte (kind_of b) ≡ false → stops (b ∷ k) ≡ true
unfolding stops
stops_here b k e = ap not e

run_step : (b : ℕ) (bs : List ℕ) (t : Bool) → goes_on_byte (kind_of b) ≡ t → Run bs → Run (b ∷ bs)
unfolding all_run
run_step b bs true e R =
    let m = run_more b bs e in
    let q = past_more b bs e in
    (ap all_run m ∙ both (goes_on_byte (kind_of b)) (all_run (run_of bs)) e R.0, ap stops q ∙ R.1, ap (λ (l : List ℕ). l ++ past_run (b ∷ bs)) m ∙ ap (λ (l : List ℕ). b ∷ (run_of bs ++ l)) q ∙ ap (λ (l : List ℕ). b ∷ l) R.2)
run_step b bs false e R =
    let m = run_none b bs e in
    let q = past_none b bs e in
    (ap all_run m, ap stops q ∙ stops_here b bs e, ap (λ (l : List ℕ). l ++ past_run (b ∷ bs)) m ∙ q)

run-parts : (bs : List ℕ) → Run bs
unfolding run_of past_run all_run stops
run-parts [] = (refl, refl, refl)
run-parts (b ∷ bs) = run_step b bs (goes_on_byte (kind_of b)) refl (run-parts bs)

-- a literal
literal_by : (c d : ℕ) (k : List ℕ) (t : Bool) → literal_byte c && eqb d 39 ≡ t → Reads (literal_if t c k) (39 ∷ c ∷ d ∷ k)
unfolding literal_if ok_piece ok_token ok_id apart apart_token apart_id spell_piece spell_token spell_id
literal_by c d k true e = let s = and-true (literal_byte c) (eqb d 39) e in (s.0, refl, ap (λ (x : ℕ). 39 ∷ c ∷ x ∷ k) (sym (eqb-true d 39 s.1)))
literal_by c d k false e = tt

literal_sound : (bs : List ℕ) → Reads (next_literal bs) (39 ∷ bs)
unfolding next_literal
literal_sound [] = tt
literal_sound (c ∷ []) = tt
literal_sound (c ∷ d ∷ k) = literal_by c d k (literal_byte c && eqb d 39) refl

-- a word
no_list : (k : List ℕ) → ◌≡◌ {A = Option (List ℕ)} none (some k) → ⊥
no_list k q = let w : ◌≡◌ {A = ℕ} 0 1 = ap (λ (o : Option (List ℕ)). elim o [ none ↦ 0 | some c ↦ 1 ]) q in omega arith

pub strip-yes : (p : ℕ) (ps : List ℕ) (b : ℕ) (t : List ℕ) → eqb p b ≡ true → strip (p ∷ ps) (b ∷ t) ≡ strip ps t
unfolding strip
strip-yes p ps b t e = rw (e, strip)

pub strip_no : (p : ℕ) (ps : List ℕ) (b : ℕ) (t : List ℕ) → eqb p b ≡ false → strip (p ∷ ps) (b ∷ t) ≡ none
unfolding strip
strip_no p ps b t e = rw (e, strip)

strip_sound : (ps t k : List ℕ) → strip ps t ≡ some k → ps ++ k ≡ t
unfolding strip
strip_sound [] t k e = cc
strip_sound (p ∷ ps) [] k e = absurd (no_list k e)
strip_sound (p ∷ ps) (b ∷ t) k e = by (eqb p b) refl (λ x. strip_sound ps t k x)
  where
    by : (o : Bool) → eqb p b ≡ o → (strip ps t ≡ some k → ps ++ k ≡ t) → (p ∷ ps) ++ k ≡ b ∷ t
    by true o ih = ap (λ (x : ℕ). x ∷ (ps ++ k)) (eqb-true p b o) ∙ ap (λ (l : List ℕ). b ∷ l) (ih (sym (strip-yes p ps b t o) ∙ e))
    by false o ih = absurd (no_list k (sym (strip_no p ps b t o) ∙ e))

token-word : (k bs : List ℕ) (t : Bool) → stops k ≡ t → (116 ∷ 111 ∷ 107 ∷ 101 ∷ 110 ∷ []) ++ k ≡ bs → Reads (word_if t token k) (37 ∷ bs)
unfolding word_if ok_piece ok_token apart apart_token spell_piece spell_token
token-word k bs true s e = (refl, s, ap (λ (l : List ℕ). 37 ∷ l) e)
token-word k bs false s e = tt

start_word : (k bs : List ℕ) (t : Bool) → stops k ≡ t → (115 ∷ 116 ∷ 97 ∷ 114 ∷ 116 ∷ []) ++ k ≡ bs → Reads (word_if t start k) (37 ∷ bs)
unfolding word_if ok_piece ok_token apart apart_token spell_piece spell_token
start_word k bs true s e = (refl, s, ap (λ (l : List ℕ). 37 ∷ l) e)
start_word k bs false s e = tt

start_by : (bs : List ℕ) (o : Option (List ℕ)) → strip (115 ∷ 116 ∷ 97 ∷ 114 ∷ 116 ∷ []) bs ≡ o → Reads (start_or o) (37 ∷ bs)
unfolding start_or
start_by bs none e = tt
start_by bs (some k) e = start_word k bs (stops k) refl (strip_sound (115 ∷ 116 ∷ 97 ∷ 114 ∷ 116 ∷ []) bs k e)

token_by : (bs : List ℕ) (o : Option (List ℕ)) → strip (116 ∷ 111 ∷ 107 ∷ 101 ∷ 110 ∷ []) bs ≡ o → Reads (token_or o bs) (37 ∷ bs)
unfolding token_or
token_by bs none e = start_by bs (strip (115 ∷ 116 ∷ 97 ∷ 114 ∷ 116 ∷ []) bs) refl
token_by bs (some k) e = token-word k bs (stops k) refl (strip_sound (116 ∷ 111 ∷ 107 ∷ 101 ∷ 110 ∷ []) bs k e)

mark_by : (bs : List ℕ) (o : Option (List ℕ)) → strip (37 ∷ []) bs ≡ o → Reads (mark_or o bs) (37 ∷ bs)
unfolding mark_or ok_piece ok_token apart apart_token spell_piece spell_token
mark_by bs none e = token_by bs (strip (116 ∷ 111 ∷ 107 ∷ 101 ∷ 110 ∷ []) bs) refl
mark_by bs (some k) e = (refl, refl, ap (λ (l : List ℕ). 37 ∷ l) (strip_sound (37 ∷ []) bs k e))

-- a comment
abbrev Commented : Next → List ℕ → Type 0
Commented (goes (comment cs) r) k = (clear cs ≡ true) × (cs ++ (42 ∷ 47 ∷ r) ≡ k)
Commented (goes (white b) r) k = ⊥
Commented (goes (piece t) r) k = ⊥
Commented ends k = ⊥
Commented outside k = Unit {0}

slash_is : (bs : List ℕ) → slash_next bs ≡ true → 47 ∷ rest bs ≡ bs
unfolding slash_next rest
slash_is [] e = absurd (false-true e)
slash_is (b ∷ bs) e = ap (λ (x : ℕ). x ∷ bs) (sym (eqb-true b 47 e))

closes_is : (b : ℕ) (bs : List ℕ) → closes b bs ≡ true → 42 ∷ 47 ∷ rest bs ≡ b ∷ bs
unfolding closes
closes_is b bs e =
    let s = and-true (eqb b 42) (slash_next bs) e in
    ap (λ (l : List ℕ). 42 ∷ l) (slash_is bs s.1) ∙ ap (λ (x : ℕ). x ∷ bs) (sym (eqb-true b 42 s.0))

comment_end : (b : ℕ) (bs : List ℕ) → closes b bs ≡ true → in_comment (b ∷ bs) ≡ goes (comment []) (rest bs)
unfolding in_comment
comment_end b bs e = rw (e, in_comment)

comment-zero : (b : ℕ) (bs : List ℕ) → closes b bs ≡ false → eqb b 0 ≡ true → in_comment (b ∷ bs) ≡ outside
unfolding in_comment
comment-zero b bs e z = rw (e, z, in_comment)

commented_longer : (b : ℕ) (x : Next) (bs : List ℕ) → closes b bs ≡ false → eqb b 0 ≡ false → Commented x bs → Commented (longer b x) (b ∷ bs)
unfolding longer clear
commented_longer b (goes (comment cs) r) bs e z C =
    let f : closes b cs ≡ false = sym (closes_eq b cs r) ∙ ap (closes b) C.1 ∙ e in
    (both (not (closes b cs)) (not (eqb b 0) && clear cs) (ap not f) (both (not (eqb b 0)) (clear cs) (ap not z) C.0), ap (λ (l : List ℕ). b ∷ l) C.1)
commented_longer b (goes (white c) r) bs e z C = absurd C
commented_longer b (goes (piece t) r) bs e z C = absurd C
commented_longer b ends bs e z C = absurd C
commented_longer b outside bs e z C = tt

comment_sound : (k : List ℕ) → Commented (in_comment k) k
unfolding in_comment clear
comment_sound [] = tt
comment_sound (b ∷ bs) = by (closes b bs) (eqb b 0) refl refl (comment_sound bs)
  where
    by : (c z : Bool) → closes b bs ≡ c → eqb b 0 ≡ z → Commented (in_comment bs) bs → Commented (in_comment (b ∷ bs)) (b ∷ bs)
    by true z x y ih = subst (λ (n : Next). Commented n (b ∷ bs)) (sym (comment_end b bs x)) (refl, closes_is b bs x)
    by false true x y ih = subst (λ (n : Next). Commented n (b ∷ bs)) (sym (comment-zero b bs x y)) tt
    by false false x y ih = subst (λ (n : Next). Commented n (b ∷ bs)) (sym (comment-more b bs x y)) (commented_longer b (in_comment bs) bs x y ih)

commented_reads : (x : Next) (k : List ℕ) → Commented x k → Reads x (47 ∷ 42 ∷ k)
unfolding ok_piece apart spell_piece
commented_reads (goes (comment cs) r) k C = (C.0, refl, ap (λ (l : List ℕ). 47 ∷ 42 ∷ l) C.1)
commented_reads (goes (white b) r) k C = absurd C
commented_reads (goes (piece t) r) k C = absurd C
commented_reads ends k C = absurd C
commented_reads outside k C = tt

slash_by : (bs : List ℕ) (o : Option (List ℕ)) → strip (42 ∷ []) bs ≡ o → Reads (comment_or o) (47 ∷ bs)
unfolding comment_or
slash_by bs none e = tt
slash_by bs (some k) e = subst (λ (l : List ℕ). Reads (in_comment k) (47 ∷ l)) (strip_sound (42 ∷ []) bs k e) (commented_reads (in_comment k) k (comment_sound k))

-- what a kind says of the byte
abbrev Means : Kind → ℕ → Type 0
Means blank b = Unit {0}
Means letter b = Unit {0}
Means digit b = Unit {0}
Means quote b = b ≡ 39
Means percent b = b ≡ 37
Means slash b = b ≡ 47
Means colons b = b ≡ 58
Means bars b = b ≡ 124
Means semis b = b ≡ 59
Means other b = Unit {0}

pick : (b : ℕ) (t : Bool) (k l : Kind) → (t ≡ true → Means k b) → Means l b → Means (elim t [ true ↦ k | false ↦ l ]) b
pick b true k l f g = f refl
pick b false k l f g = g

means : (b : ℕ) → Means (kind_of b) b
unfolding kind_of
means b =
    pick b (is_white_byte b) blank _ (λ e. tt)
    (pick b (is_letter_byte b) letter _ (λ e. tt)
    (pick b (is_digit_byte b) digit _ (λ e. tt)
    (pick b (eqb b 39) quote _ (λ e. eqb-true b 39 e)
    (pick b (eqb b 37) percent _ (λ e. eqb-true b 37 e)
    (pick b (eqb b 47) slash _ (λ e. eqb-true b 47 e)
    (pick b (eqb b 58) colons _ (λ e. eqb-true b 58 e)
    (pick b (eqb b 124) bars _ (λ e. eqb-true b 124 e)
    (pick b (eqb b 59) semis other (λ e. eqb-true b 59 e) tt))))))))

kind_sound : (κ : Kind) (b : ℕ) (bs : List ℕ) → kind_of b ≡ κ → Means κ b → Reads (next_of κ b bs) (b ∷ bs)
unfolding next_of ok_piece ok_token ok_id apart apart_token apart_id spell_piece spell_token spell_id blank? letter?
kind_sound blank b bs e m = (ap blank? e, refl, refl)
kind_sound letter b bs e m = let R = run-parts bs in (both (letter? (kind_of b)) (all_run (run_of bs)) (ap letter? e) R.0, R.1, ap (λ (l : List ℕ). b ∷ l) R.2)
kind_sound digit b bs e m = tt
kind_sound quote b bs e m = subst (λ (c : ℕ). Reads (next_literal bs) (c ∷ bs)) (sym m) (literal_sound bs)
kind_sound percent b bs e m = subst (λ (c : ℕ). Reads (mark_or (strip (37 ∷ []) bs) bs) (c ∷ bs)) (sym m) (mark_by bs (strip (37 ∷ []) bs) refl)
kind_sound slash b bs e m = subst (λ (c : ℕ). Reads (comment_or (strip (42 ∷ []) bs)) (c ∷ bs)) (sym m) (slash_by bs (strip (42 ∷ []) bs) refl)
kind_sound colons b bs e m = (refl, refl, ap (λ (c : ℕ). c ∷ bs) (sym m))
kind_sound bars b bs e m = (refl, refl, ap (λ (c : ℕ). c ∷ bs) (sym m))
kind_sound semis b bs e m = (refl, refl, ap (λ (c : ℕ). c ∷ bs) (sym m))
kind_sound other b bs e m = tt

pub next_sound : (t : List ℕ) → Reads (next t) t
unfolding next
next_sound [] = refl
next_sound (b ∷ bs) = kind_sound (kind_of b) b bs refl (means b)

-- step after step
pub steps_all : (ps : List Piece) (n : ℕ) → fits ps ≡ true → length (spell_all ps) ≤ n → lex_steps n (spell_all ps) ≡ some ps
unfolding fits spell_all lex_steps next after before
steps_all [] zero f h = refl
steps_all [] (suc n) f h = refl
steps_all (p ∷ ps) zero f h = let l = shorter p (spell_all ps) in absurd (omega arith)
steps_all (p ∷ ps) (suc m) f h =
    let s = and-true (ok_piece p) (apart p (spell_all ps) && fits ps) f in
    let r = and-true (apart p (spell_all ps)) (fits ps) s.1 in
    let l = shorter p (spell_all ps) in
    ap (λ (x : Next). after x (λ k. lex_steps m k)) (next-complete p (spell_all ps) s.0 r.0) ∙ ap (before p) (steps_all ps m r.1 (omega arith))

none-some : (f : List Piece) → ◌≡◌ {A = Option (List Piece)} none (some f) → ⊥
none-some f q = let w : ◌≡◌ {A = ℕ} 0 1 = ap (λ (o : Option (List Piece)). elim o [ none ↦ 0 | some c ↦ 1 ]) q in omega arith

abbrev pub Spelled : List Piece → List ℕ → Type 0
Spelled ps t = (fits ps ≡ true) × (spell_all ps ≡ t)

goes_sound : (p : Piece) (k t : List ℕ) (o : Option (List Piece)) → Reads (goes p k) t → ((qs : List Piece) → o ≡ some qs → Spelled qs k) → (ps : List Piece) → before p o ≡ some ps → Spelled ps t
unfolding before fits spell_all
goes_sound p k t none R ih ps e = absurd (none-some ps e)
goes_sound p k t (some qs) R ih ps e =
    let i : p ∷ qs ≡ ps = cc in
    let Q = ih qs refl in
    let f : fits (p ∷ qs) ≡ true = both (ok_piece p) (apart p (spell_all qs) && fits qs) R.0 (both (apart p (spell_all qs)) (fits qs) (ap (apart p) Q.1 ∙ R.1) Q.0) in
    (ap fits (sym i) ∙ f, ap spell_all (sym i) ∙ ap (spell_piece p) Q.1 ∙ R.2)

after_sound : (x : Next) (f : List ℕ → Option (List Piece)) (t : List ℕ) → Reads x t → ((k : List ℕ) (qs : List Piece) → f k ≡ some qs → Spelled qs k) → (ps : List Piece) → after x f ≡ some ps → Spelled ps t
unfolding after fits spell_all
after_sound (goes p k) f t R ih ps e = goes_sound p k t (f k) R (ih k) ps e
after_sound ends f t R ih ps e = let i : [] ≡ ps = cc in (ap fits (sym i), ap spell_all (sym i) ∙ sym R)
after_sound outside f t R ih ps e = absurd (none-some ps e)

steps_sound : (n : ℕ) (t : List ℕ) (ps : List Piece) → lex_steps n t ≡ some ps → Spelled ps t
unfolding lex_steps
steps_sound zero t ps e = after_sound (next t) (λ k. none) t (next_sound t) (λ k qs q. absurd (none-some qs q)) ps e
steps_sound (suc n) t ps e = after_sound (next t) (λ k. lex_steps n k) t (next_sound t) (λ k qs q. steps_sound n k qs q) ps e

pub lex-complete : (ps : List Piece) → fits ps ≡ true → lex (spell_all ps) ≡ some ps
unfolding lex
lex-complete ps f = steps_all ps (length (spell_all ps)) f (omega arith)

pub lex_sound : (t : List ℕ) (ps : List Piece) → lex t ≡ some ps → Spelled ps t
unfolding lex
lex_sound t ps e = steps_sound (length t) t ps e

-- one piece, then the rest: the bound on steps never cuts
after_same : (x : Next) (t : List ℕ) (f g : List ℕ → Option (List Piece)) → Reads x t → ((k : List ℕ) → length k < length t → f k ≡ g k) → after x f ≡ after x g
unfolding after
after_same (goes p k) t f g R h = let s = shorter p k in let e : length (spell_piece p k) ≡ length t = ap length R.2 in ap (before p) (h k (omega arith))
after_same ends t f g R h = refl
after_same outside t f g R h = refl

steps_same : (n m : ℕ) (t : List ℕ) → length t ≤ n → length t ≤ m → lex_steps n t ≡ lex_steps m t
unfolding lex_steps
steps_same zero zero t a b = refl
steps_same zero (suc m) t a b = after_same (next t) t (λ k. none) (λ k. lex_steps m k) (next_sound t) (λ k l. absurd (omega arith))
steps_same (suc n) zero t a b = after_same (next t) t (λ k. lex_steps n k) (λ k. none) (next_sound t) (λ k l. absurd (omega arith))
steps_same (suc n) (suc m) t a b = after_same (next t) t (λ k. lex_steps n k) (λ k. lex_steps m k) (next_sound t) (λ k l. steps_same n m k (omega arith) (omega arith))

pub lex-step : (t : List ℕ) → lex t ≡ after (next t) lex
unfolding lex lex_steps
lex-step t =
    steps_same (length t) (suc (length t)) t (omega arith) (omega arith)
    ∙ after_same (next t) t (λ k. lex_steps (length t) k) (λ k. lex_steps (length k) k) (next_sound t) (λ k l. steps_same (length t) (length k) k (omega arith) (omega arith))
