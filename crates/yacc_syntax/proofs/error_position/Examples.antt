-- Texts and the byte at which each leaves the grammar, computed.
use Prim.Native.Nat.{ℕ, suc, ◌+◌, ◌<◌}
use native.Mathlib.Omega.{arith}
use mathlib.Core.Bool.{true, false}
use mathlib.Core.Path.{◌≡◌, refl, ap, ◌∙◌, subst}
use mathlib.Core.List.{List, [], ◌∷◌, ◌++◌, map, append_assoc, append-nil}
use lib.ListN.{length, length-append}
use lib.Seq.{take-append_seam, get_or-append_seam}
use Rattle.lr1_base.proofs.repr.Lists.{cases}
use Rattle.yacc_syntax.specs.text.Grammar.{kind_of, is_white_byte, is_letter_byte, goes_on_byte, literal_byte}
use Rattle.yacc_syntax.specs.text.Forward.{Mode, begins, sides, move}
use Rattle.yacc_syntax.specs.error_position.Stray.{IsStray}
use Rattle.yacc_syntax.specs.error_position.Automaton.{State, initial, signs, marks, step_kind, step_signed, step_word, step_inside, step_part, step, fed}
use Rattle.yacc_syntax.proofs.error_position.Live.{is_dead, is_dead_lem, fed-append, fed-more, stray-ends, stray_dies}
use Rattle.lr1_base.specs.numerals.Numeral.{is_digit_byte}

abbrev mode_in : State → Mode
mode_in s = s.mode

-- how many bytes the automaton takes
pub taken : State → List ℕ → ℕ
taken s [] = 0
taken s (b ∷ bs) = elim (is_dead (step s b).mode) [ true ↦ 0 | false ↦ suc (taken (step s b) bs) ]

taken_dead : (s : State) (b : ℕ) (bs : List ℕ) → is_dead (step s b).mode ≡ true → taken s (b ∷ bs) ≡ 0
unfolding taken
taken_dead s b bs e = rw (e, taken)

taken_live : (s : State) (b : ℕ) (bs : List ℕ) → is_dead (step s b).mode ≡ false → taken s (b ∷ bs) ≡ suc (taken (step s b) bs)
unfolding taken
taken_live s b bs e = rw (e, taken)

fed_one : (xs : List ℕ) (b : ℕ) → fed initial (xs ++ b ∷ []) ≡ step (fed initial xs) b
unfolding fed
fed_one xs b = fed-append xs (b ∷ []) initial

taken_from : (bs xs : List ℕ) → is_dead (fed initial xs).mode ≡ false → IsStray (xs ++ bs) (length xs + taken (fed initial xs) bs)
unfolding taken
taken_from [] xs e = let q : length xs + 0 ≡ length xs = omega arith in rw (append-nil, q) (stray-ends xs e)
taken_from (b ∷ bs) xs e =
    cases (is_dead (step (fed initial xs) b).mode)
    (λ d. let q : length xs + taken (fed initial xs) (b ∷ bs) ≡ length xs = omega (arith, taken_dead (fed initial xs) b bs d) in
    rw q (stray_dies (xs ++ b ∷ bs) (length xs) inner (rw take-append_seam e) (ap mode_in (fed-more (xs ++ b ∷ bs) (length xs) inner) ∙ rw (take-append_seam, get_or-append_seam) (is_dead_lem (step (fed initial xs) b).mode d))))
    (λ n. let q : length (xs ++ b ∷ []) + taken (fed initial (xs ++ b ∷ [])) bs ≡ length xs + taken (fed initial xs) (b ∷ bs) = omega (arith, taken_live (fed initial xs) b bs n, length-append xs (b ∷ []), ap (λ (s : State). taken s bs) (fed_one xs b)) in
    subst (λ (k : ℕ). IsStray (xs ++ b ∷ bs) k) q (subst (λ (l : List ℕ). IsStray l (length (xs ++ b ∷ []) + taken (fed initial (xs ++ b ∷ [])) bs)) (append_assoc xs (b ∷ []) bs) (taken_from bs (xs ++ b ∷ []) (ap (λ (s : State). is_dead s.mode) (fed_one xs b) ∙ n))))
  where
    inner : length xs < length (xs ++ b ∷ bs)
    inner = omega (arith, length-append xs (b ∷ bs))

pub taken_stray : (t : List ℕ) → IsStray t (taken initial t)
unfolding fed is_dead
taken_stray t = let q : 0 + taken initial t ≡ taken initial t = omega arith in subst (λ (k : ℕ). IsStray t k) q (taken_from t [] refl)

-- ``, `%%x:;`, `%%x:`, `x:;`, `%%x:;%%`, `%%x:;;`, `%token_a%%x:;`, `%token%%x:;`, `%start x%start x%%x:;`, `%start x %% x:;`, `%%'a':;`, `%%x y:;`, `/*/%%x:;`, `/*<0>*/%%x:;`, `<13>%%x:;`, `%%x:a,b;`, `%%x:'ab';`, `%%x:'';`, `%%9x:;`, `%left A%%x:;`, `%% x:{};`, `%token a/*`, `%% x : 'a<255>`, `%%x:'\n';`
pub strays : map (taken initial) (
    ([]) ∷
    (37 ∷ 37 ∷ 120 ∷ 58 ∷ 59 ∷ []) ∷
    (37 ∷ 37 ∷ 120 ∷ 58 ∷ []) ∷
    (120 ∷ 58 ∷ 59 ∷ []) ∷
    (37 ∷ 37 ∷ 120 ∷ 58 ∷ 59 ∷ 37 ∷ 37 ∷ []) ∷
    (37 ∷ 37 ∷ 120 ∷ 58 ∷ 59 ∷ 59 ∷ []) ∷
    (37 ∷ 116 ∷ 111 ∷ 107 ∷ 101 ∷ 110 ∷ 65 ∷ 37 ∷ 37 ∷ 120 ∷ 58 ∷ 59 ∷ []) ∷
    (37 ∷ 116 ∷ 111 ∷ 107 ∷ 101 ∷ 110 ∷ 37 ∷ 37 ∷ 120 ∷ 58 ∷ 59 ∷ []) ∷
    (37 ∷ 115 ∷ 116 ∷ 97 ∷ 114 ∷ 116 ∷ 32 ∷ 120 ∷ 37 ∷ 115 ∷ 116 ∷ 97 ∷ 114 ∷ 116 ∷ 32 ∷ 120 ∷ 37 ∷ 37 ∷ 120 ∷ 58 ∷ 59 ∷ []) ∷
    (37 ∷ 115 ∷ 116 ∷ 97 ∷ 114 ∷ 116 ∷ 32 ∷ 120 ∷ 32 ∷ 37 ∷ 37 ∷ 32 ∷ 120 ∷ 58 ∷ 59 ∷ []) ∷
    (37 ∷ 37 ∷ 39 ∷ 97 ∷ 39 ∷ 58 ∷ 59 ∷ []) ∷
    (37 ∷ 37 ∷ 120 ∷ 32 ∷ 121 ∷ 58 ∷ 59 ∷ []) ∷
    (47 ∷ 42 ∷ 47 ∷ 37 ∷ 37 ∷ 120 ∷ 58 ∷ 59 ∷ []) ∷
    (47 ∷ 42 ∷ 0 ∷ 42 ∷ 47 ∷ 37 ∷ 37 ∷ 120 ∷ 58 ∷ 59 ∷ []) ∷
    (13 ∷ 37 ∷ 37 ∷ 120 ∷ 58 ∷ 59 ∷ []) ∷
    (37 ∷ 37 ∷ 120 ∷ 58 ∷ 97 ∷ 44 ∷ 98 ∷ 59 ∷ []) ∷
    (37 ∷ 37 ∷ 120 ∷ 58 ∷ 39 ∷ 97 ∷ 98 ∷ 39 ∷ 59 ∷ []) ∷
    (37 ∷ 37 ∷ 120 ∷ 58 ∷ 39 ∷ 39 ∷ 59 ∷ []) ∷
    (37 ∷ 37 ∷ 57 ∷ 120 ∷ 58 ∷ 59 ∷ []) ∷
    (37 ∷ 108 ∷ 101 ∷ 102 ∷ 116 ∷ 32 ∷ 65 ∷ 37 ∷ 37 ∷ 120 ∷ 58 ∷ 59 ∷ []) ∷
    (37 ∷ 37 ∷ 32 ∷ 120 ∷ 58 ∷ 123 ∷ 125 ∷ 59 ∷ []) ∷
    (37 ∷ 116 ∷ 111 ∷ 107 ∷ 101 ∷ 110 ∷ 32 ∷ 97 ∷ 47 ∷ 42 ∷ []) ∷
    (37 ∷ 37 ∷ 32 ∷ 120 ∷ 32 ∷ 58 ∷ 32 ∷ 39 ∷ 97 ∷ 255 ∷ []) ∷
    (37 ∷ 37 ∷ 120 ∷ 58 ∷ 39 ∷ 92 ∷ 110 ∷ 39 ∷ 59 ∷ []) ∷
    []) ≡ 0 ∷ 5 ∷ 4 ∷ 0 ∷ 5 ∷ 5 ∷ 6 ∷ 6 ∷ 9 ∷ 15 ∷ 2 ∷ 4 ∷ 8 ∷ 2 ∷ 0 ∷ 5 ∷ 6 ∷ 5 ∷ 2 ∷ 1 ∷ 5 ∷ 10 ∷ 9 ∷ 5 ∷ []
unfolding taken is_dead kind_of is_white_byte is_letter_byte is_digit_byte goes_on_byte literal_byte begins sides move signs marks step_kind step_signed step_word step_inside step_part
strays = refl
