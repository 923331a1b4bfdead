-- Where the automaton dies is the first byte that no text of the grammar can have there.
use Prim.Native.Nat.{ℕ, suc, ◌≤◌, ◌<◌}
use mathlib.Core.Bool.{Bool, true, false}
use mathlib.Core.Path.{◌≡◌, refl, sym, ap, ◌∙◌, subst}
use mathlib.Core.List.{List, [], ◌∷◌, ◌++◌, append_assoc, append-nil}
use mathlib.Core.Option.{Option, none, some}
use lib.ListN.{length, get_or, take, drop, take-append-drop}
use lib.Seq.{take-suc, take-length, take-take}
use native.Mathlib.Omega.{arith}
use lib.Dec.{eqb, ltb}
use borrow.Author.Tests.{eq-eqb, ltb-true, ltb-false}
use Rattle.lr1_base.proofs.repr.Lists.{cases, clash}
use Rattle.lr1_base.specs.repr.Lists.{every?}
use Rattle.lr1_base.proofs.repr.Tests.{every?_yes, every?_cons}
use Rattle.yacc_syntax.specs.text.Grammar.{Kind, blank, letter, digit, quote, percent, slash, colons, bars, semis, other, token, start, kind_of, is_white_byte, is_letter_byte, goes_on_byte, literal_byte, Piece, Layout, Sound, spell}
use Rattle.yacc_syntax.specs.text.Lex.{lex}
use Rattle.yacc_syntax.specs.text.Parse.{parse}
use Rattle.yacc_syntax.specs.text.Places.{placed_in, placed_from}
use Rattle.yacc_syntax.specs.text.Forward.{Mode, top, wanted, listed, starting, ruled, sided, bodied, done, dead, sides, move, last, accepts}
use Rattle.yacc_syntax.proofs.text.Exact.{parse-complete, parse_sound}
use Rattle.yacc_syntax.specs.recognizer.Accepted.{judged, is_grammar_text}
use Rattle.yacc_syntax.proofs.recognizer.Laws.{tokens-placed, judged-whole}
use Rattle.yacc_syntax.specs.error_position.Stray.{Begins, IsStray}
use Rattle.yacc_syntax.specs.error_position.Automaton.{Part, between, run, signed, word, opened, filled, slashed, inside, starred, State, at, lost, initial, signs, marks, step_kind, step_signed, step_word, step_inside, step_part, step, fed, ending, final, ok}
use Rattle.yacc_syntax.proofs.error_position.Automaton.{ok-dead, ok_pieces, pieces_ok}
use Rattle.lr1_base.proofs.laws.Bools.{and-true}
use Rattle.lr1_base.specs.numerals.Numeral.{is_digit_byte}

-- the automaton accepts the texts of the grammar
pieces_judged : (m : Mode) (o : Option (List Piece)) → ok_pieces m o ≡ judged m (placed_in 0 o)
unfolding judged placed_in
pieces_judged m none = refl
pieces_judged m (some ps) = ap (accepts m) (sym (tokens-placed 0 ps))

pub exact : (t : List ℕ) → ok initial t ≡ is_grammar_text t
unfolding placed_from
exact t = pieces_ok t (top false) ∙ pieces_judged (top false) (lex t) ∙ judged-whole t

parsed_by : (t : List ℕ) (o : Option Layout) → parse t ≡ o → (elim o as (λ p. Bool) [ none ↦ false | some l ↦ true ]) ≡ true → (l : Layout) × (parse t ≡ some l)
parsed_by t none e f = clash false f refl
parsed_by t (some l) e f = (l, e)

-- so what it accepts is spelled by a sound layout, and the other way round
pub accepted : (t : List ℕ) → ok initial t ≡ true → (l : Layout) × Sound l × (spell l ≡ t)
unfolding is_grammar_text
accepted t e =
    let p = parsed_by t (parse t) refl (sym (exact t) ∙ e) in
    let s = parse_sound t p.0 p.1 in
    (p.0, s.0, s.1)

pub accepts_spelled : (l : Layout) → Sound l → ok initial (spell l) ≡ true
unfolding is_grammar_text
accepts_spelled l S = exact (spell l) ∙ ap (λ (o : Option Layout). elim o as (λ p. Bool) [ none ↦ false | some k ↦ true ]) (parse-complete l S)

pub fed-append : (xs ys : List ℕ) (s : State) → fed s (xs ++ ys) ≡ fed (fed s xs) ys
unfolding fed
fed-append [] ys s = refl
fed-append (b ∷ xs) ys s = fed-append xs ys (step s b)

-- from every live state some bytes lead to the end of a text
unfoldable pub is_dead : Mode → Bool
is_dead m = elim m [ top s ↦ false | wanted s ↦ false | listed s ↦ false | starting ↦ false | ruled ↦ false | sided ↦ false | bodied ↦ false | done ↦ false | dead ↦ true ]

abbrev pub ascii : List ℕ → Bool
ascii bs = every? (λ b. ltb b 128) bs

Live : State → Type 0
Live s = (more : List ℕ) × (ok s more ≡ true) × (ascii more ≡ true)

abbrev a_rule : List ℕ
a_rule = 97 ∷ 58 ∷ 59 ∷ []

-- between pieces: ` a%%a:;` or its end
tail : Mode → List ℕ
tail m = elim m [ top s ↦ 37 ∷ 37 ∷ a_rule | wanted s ↦ 97 ∷ 37 ∷ 37 ∷ a_rule | listed s ↦ 37 ∷ 37 ∷ a_rule | starting ↦ 97 ∷ 37 ∷ 37 ∷ a_rule | ruled ↦ a_rule | sided ↦ 58 ∷ 59 ∷ [] | bodied ↦ 59 ∷ [] | done ↦ [] | dead ↦ [] ]

tail-ok : (m : Mode) → is_dead m ≡ false → ok (at m between) (tail m) ≡ true
unfolding is_dead tail fed final ending step_part step_kind step_signed step_word signs marks move sides last kind_of is_white_byte is_letter_byte is_digit_byte goes_on_byte
tail-ok (top s) e = refl
tail-ok (wanted s) e = refl
tail-ok (listed s) e = refl
tail-ok starting e = refl
tail-ok ruled e = refl
tail-ok sided e = refl
tail-ok bodied e = refl
tail-ok done e = refl
tail-ok dead e = clash true refl e

tail_ascii : (m : Mode) → ascii (tail m) ≡ true
unfolding tail every?
tail_ascii (top s) = refl
tail_ascii (wanted s) = refl
tail_ascii (listed s) = refl
tail_ascii starting = refl
tail_ascii ruled = refl
tail_ascii sided = refl
tail_ascii bodied = refl
tail_ascii done = refl
tail_ascii dead = refl

live_word : (ws : List ℕ) (m : Mode) → is_dead m ≡ false → ascii ws ≡ true → Live (at m (word ws))
unfolding Live fed step_part step_kind step_word kind_of is_white_byte goes_on_byte every?
live_word [] m e a = (32 ∷ tail m, tail-ok m e, tail_ascii m)
live_word (w ∷ ws) m e a =
    let h = and-true (ltb w 128) (ascii ws) (sym (every?_cons (λ b. ltb b 128) w ws) ∙ a) in
    let L = live_word ws m e h.1 in
    (w ∷ L.0, ap (λ (o : Bool). ok (elim o [ true ↦ at m (word ws) | false ↦ lost ]) L.0) (eq-eqb w w refl) ∙ L.1, every?_yes (λ b. ltb b 128) w L.0 h.0 ∙ L.2)

marks_live : (m : Mode) → is_dead m ≡ false → marks m ≡ ruled
unfolding is_dead marks
marks_live (top s) e = refl
marks_live (wanted s) e = refl
marks_live (listed s) e = refl
marks_live starting e = refl
marks_live ruled e = refl
marks_live sided e = refl
marks_live bodied e = refl
marks_live done e = refl
marks_live dead e = clash true refl e

-- the bytes that a part waits for
plain : Part → Bool
plain between = true
plain run = true
plain signed = true
plain (word ws) = ascii ws
plain opened = true
plain filled = true
plain slashed = true
plain inside = true
plain starred = true

live : (m : Mode) (p : Part) → is_dead m ≡ false → plain p ≡ true → Live (at m p)
unfolding Live is_dead fed step_part step_kind step_signed step_inside kind_of is_white_byte goes_on_byte literal_byte plain every?
live m between e a = (tail m, tail-ok m e, tail_ascii m)
live m run e a = (32 ∷ tail m, tail-ok m e, tail_ascii m)
live m signed e a = (37 ∷ tail ruled, ap (λ (n : Mode). ok (at n between) (tail ruled)) (marks_live m e) ∙ tail-ok ruled refl, tail_ascii ruled)
live m (word ws) e a = live_word ws m e a
live m opened e a = (97 ∷ 39 ∷ tail m, tail-ok m e, tail_ascii m)
live m filled e a = (39 ∷ tail m, tail-ok m e, tail_ascii m)
live m slashed e a = (42 ∷ 42 ∷ 47 ∷ tail m, tail-ok m e, tail_ascii m)
live m inside e a = (42 ∷ 47 ∷ tail m, tail-ok m e, tail_ascii m)
live m starred e a = (47 ∷ tail m, tail-ok m e, tail_ascii m)

abbrev part_in : State → Part
part_in s = s.part

plain_either : (o : Bool) (x y : State) → plain x.part ≡ true → plain y.part ≡ true → plain (part_in (elim o [ true ↦ x | false ↦ y ])) ≡ true
plain_either true x y e f = e
plain_either false x y e f = f

plain_kind : (κ : Kind) (m : Mode) → plain (step_kind κ m).part ≡ true
unfolding step_kind plain
plain_kind blank m = refl
plain_kind letter m = refl
plain_kind digit m = refl
plain_kind quote m = refl
plain_kind percent m = refl
plain_kind slash m = refl
plain_kind colons m = refl
plain_kind bars m = refl
plain_kind semis m = refl
plain_kind other m = refl

plain-inside : (m : Mode) (b : ℕ) → plain (step_inside m b).part ≡ true
unfolding step_inside plain
plain-inside m b = plain_either (eqb b 42) (at m starred) _ refl (plain_either (eqb b 0) lost (at m inside) refl refl)

plain_part : (p : Part) (m : Mode) (b : ℕ) → plain p ≡ true → plain (step_part p m b).part ≡ true
unfolding step_part step_signed step_word plain every?
plain_part between m b a = plain_kind (kind_of b) m
plain_part run m b a = plain_either (goes_on_byte (kind_of b)) (at m run) (step_kind (kind_of b) m) refl (plain_kind (kind_of b) m)
plain_part signed m b a = plain_either (eqb 37 b) (at (marks m) between) _ refl (plain_either (eqb 116 b) (at (move m token) (word (111 ∷ 107 ∷ 101 ∷ 110 ∷ []))) _ refl (plain_either (eqb 115 b) (at (move m start) (word (116 ∷ 97 ∷ 114 ∷ 116 ∷ []))) lost refl refl))
plain_part (word []) m b a = plain_either (goes_on_byte (kind_of b)) lost (step_kind (kind_of b) m) refl (plain_kind (kind_of b) m)
plain_part (word (w ∷ ws)) m b a = plain_either (eqb w b) (at m (word ws)) lost (and-true (ltb w 128) (ascii ws) (sym (every?_cons (λ c. ltb c 128) w ws) ∙ a)).1 refl
plain_part opened m b a = plain_either (literal_byte b) (at m filled) lost refl refl
plain_part filled m b a = plain_either (eqb b 39) (at m between) lost refl refl
plain_part slashed m b a = plain_either (eqb 42 b) (at m inside) lost refl refl
plain_part inside m b a = plain-inside m b
plain_part starred m b a = plain_either (eqb b 47) (at m between) (step_inside m b) refl (plain-inside m b)

plain-fed : (bs : List ℕ) (s : State) → plain s.part ≡ true → plain (fed s bs).part ≡ true
unfolding fed
plain-fed [] s a = a
plain-fed (b ∷ bs) s a = plain-fed bs (step s b) (plain_part s.part s.mode b a)

-- bytes that leave the automaton live begin a text, and no others do
pub begins_live : (bs : List ℕ) → is_dead (fed initial bs).mode ≡ false → (B : Begins bs) × (ascii B.more ≡ true)
unfolding Live plain
begins_live bs e =
    let L = live (fed initial bs).mode (fed initial bs).part e (plain-fed bs initial refl) in
    let a = accepted (bs ++ L.0) (ap final (fed-append bs L.0 initial) ∙ L.1) in
    (record { more = L.0; layout = a.0; sound = a.1; spelled = a.2 }, L.2)

pub begins-dead : (bs : List ℕ) → (fed initial bs).mode ≡ dead → Begins bs → ⊥
begins-dead bs e B =
    let t : ok initial (bs ++ B.more) ≡ true = ap (ok initial) (sym B.spelled) ∙ accepts_spelled B.layout B.sound in
    let f : ok initial (bs ++ B.more) ≡ false = ap final (fed-append bs B.more initial) ∙ ok-dead B.more (fed initial bs) e in
    clash (ok initial (bs ++ B.more)) t f

-- where the automaton dies, or the text ends
pub stray-ends : (t : List ℕ) → is_dead (fed initial t).mode ≡ false → IsStray t (length t)
stray-ends t e = record { inside = omega arith; begins = rw take-length (begins_live t e).0; stray = λ h B. absurd (omega arith) }

pub fed-more : (t : List ℕ) (i : ℕ) → i < length t → fed initial (take (suc i) t) ≡ step (fed initial (take i t)) (get_or t i 0)
unfolding fed
fed-more t i h = ap (fed initial) (take-suc t i 0 h) ∙ fed-append (take i t) (get_or t i 0 ∷ []) initial

pub stray_dies : (t : List ℕ) (i : ℕ) → i < length t → is_dead (fed initial (take i t)).mode ≡ false → (fed initial (take (suc i) t)).mode ≡ dead → IsStray t i
stray_dies t i h e d = record { inside = omega arith; begins = (begins_live (take i t) e).0; stray = λ k B. begins-dead (take (suc i) t) d B }

-- what begins a text begins it with fewer bytes too, so there is one such place, and a text of the grammar has it at its end
begins-front : (xs ys : List ℕ) → Begins (xs ++ ys) → Begins xs
begins-front xs ys B = record { more = ys ++ B.more; layout = B.layout; sound = B.sound; spelled = B.spelled ∙ append_assoc xs ys B.more }

begins-take : (t : List ℕ) (i j : ℕ) → i ≤ j → Begins (take j t) → Begins (take i t)
begins-take t i j h B = begins-front (take i t) (drop i (take j t)) (subst Begins (sym (take-append-drop i (take j t)) ∙ ap (λ (l : List ℕ). l ++ drop i (take j t)) (take-take i j t h)) B)

none_below : (t : List ℕ) (j k : ℕ) → IsStray t j → IsStray t k → j < k → ⊥
none_below t j k J K h = J.stray (omega (arith, K.inside)) (begins-take t (suc j) k (omega arith) K.begins)

pub one_stray : (t : List ℕ) (j k : ℕ) → IsStray t j → IsStray t k → j ≡ k
one_stray t j k J K =
    cases (ltb j k)
    (λ e. absurd (none_below t j k J K (ltb-true j k e)))
    (λ e. cases (ltb k j) (λ f. absurd (none_below t k j K J (ltb-true k j f))) (λ f. omega (arith, ltb-false j k e, ltb-false k j f)))

pub text_stray : (l : Layout) → Sound l → IsStray (spell l) (length (spell l))
text_stray l S = record { inside = omega arith; begins = rw take-length (record { more = []; layout = l; sound = S; spelled = sym (append-nil (spell l)) }); stray = λ h B. absurd (omega arith) }

-- whatever begins a text of numbers, begins one that goes on in bytes
pub is_dead_lem : (m : Mode) → is_dead m ≡ true → m ≡ dead
unfolding is_dead
is_dead_lem (top s) e = clash false e refl
is_dead_lem (wanted s) e = clash false e refl
is_dead_lem (listed s) e = clash false e refl
is_dead_lem starting e = clash false e refl
is_dead_lem ruled e = clash false e refl
is_dead_lem sided e = clash false e refl
is_dead_lem bodied e = clash false e refl
is_dead_lem done e = clash false e refl
is_dead_lem dead e = refl

pub begins_ascii : (bs : List ℕ) → Begins bs → (B : Begins bs) × (ascii B.more ≡ true)
begins_ascii bs B = cases (is_dead (fed initial bs).mode) (λ e. absurd (begins-dead bs (is_dead_lem (fed initial bs).mode e) B)) (λ e. begins_live bs e)
