-- Bytes and their kinds.
use Prim.Native.Nat.{ℕ}
use mathlib.Core.Bool.{Bool, true, false, ◌||◌}
use mathlib.Core.Path.{◌≡◌, refl, sym, ap}
use lib.Dec.{eqb}
use borrow.Author.Tests.{ne_eqb}
use native.Mathlib.Omega.{arith}
use Rattle.std.proofs.lemmas.Bool.Decides.{nat_tests}
use Rattle.yacc_syntax.specs.text.Grammar.{Kind, blank, letter, digit, quote, percent, slash, colons, bars, semis, other, is_white_byte, is_letter_byte, kind_of, goes_on_byte}
use Rattle.lr1_base.specs.numerals.Numeral.{is_digit_byte}

-- kinds, one test after the other
pub kind_white : (b : ℕ) → is_white_byte b ≡ true → kind_of b ≡ blank
unfolding kind_of
kind_white b w = rw (w, kind_of)

module _ (b : ℕ) (w : is_white_byte b ≡ false) where
  pub kind_letter : is_letter_byte b ≡ true → kind_of b ≡ letter
  unfolding kind_of
  kind_letter l = rw (w, l, kind_of)

  module _ (l : is_letter_byte b ≡ false) where
    pub kind_digit : is_digit_byte b ≡ true → kind_of b ≡ digit
    unfolding kind_of
    kind_digit d = rw (w, l, d, kind_of)

    module _ (d : is_digit_byte b ≡ false) where
      pub kind_other : (b ≡ 39 → ⊥) → (b ≡ 37 → ⊥) → (b ≡ 47 → ⊥) → (b ≡ 58 → ⊥) → (b ≡ 124 → ⊥) → (b ≡ 59 → ⊥) → kind_of b ≡ other
      unfolding kind_of
      kind_other n39 n37 n47 n58 n124 n59 = rw (w, l, d, ne_eqb b 39 n39, ne_eqb b 37 n37, ne_eqb b 47 n47, ne_eqb b 58 n58, ne_eqb b 124 n124, ne_eqb b 59 n59, kind_of)

-- a byte that is a sign
pub kind_quote : (b : ℕ) → b ≡ 39 → kind_of b ≡ quote
unfolding kind_of is_white_byte is_letter_byte is_digit_byte
kind_quote b e = ap kind_of e

pub kind_percent : (b : ℕ) → b ≡ 37 → kind_of b ≡ percent
unfolding kind_of is_white_byte is_letter_byte is_digit_byte
kind_percent b e = ap kind_of e

pub kind_slash : (b : ℕ) → b ≡ 47 → kind_of b ≡ slash
unfolding kind_of is_white_byte is_letter_byte is_digit_byte
kind_slash b e = ap kind_of e

pub kind_colon : (b : ℕ) → b ≡ 58 → kind_of b ≡ colons
unfolding kind_of is_white_byte is_letter_byte is_digit_byte
kind_colon b e = ap kind_of e

pub kind_bar : (b : ℕ) → b ≡ 124 → kind_of b ≡ bars
unfolding kind_of is_white_byte is_letter_byte is_digit_byte
kind_bar b e = ap kind_of e

pub kind_semi : (b : ℕ) → b ≡ 59 → kind_of b ≡ semis
unfolding kind_of is_white_byte is_letter_byte is_digit_byte
kind_semi b e = ap kind_of e

-- `goes_on`: no white byte is a letter or a digit
no_white : (b : ℕ) → is_letter_byte b || is_digit_byte b ≡ true → is_white_byte b ≡ false
unfolding is_white_byte is_letter_byte is_digit_byte
no_white b l = grind (arith, nat_tests)

neither : (t : Bool) (k l : Kind) → goes_on_byte k ≡ false → goes_on_byte l ≡ false → goes_on_byte (elim t [ true ↦ k | false ↦ l ]) ≡ false
neither true k l f g = f
neither false k l f g = g

no_digit : (b : ℕ) → is_white_byte b ≡ false → is_letter_byte b ≡ false → is_digit_byte b ≡ false → goes_on_byte (kind_of b) ≡ false
unfolding kind_of goes_on_byte
no_digit b w l d =
    rw (w, l, d, kind_of)
    (neither (eqb b 39) quote _ refl
    (neither (eqb b 37) percent _ refl
    (neither (eqb b 47) slash _ refl (neither (eqb b 58) colons _ refl (neither (eqb b 124) bars _ refl (neither (eqb b 59) semis other refl refl))))))

by_tests : (b : ℕ) (w l d : Bool) → is_white_byte b ≡ w → is_letter_byte b ≡ l → is_digit_byte b ≡ d → (l || d ≡ true → w ≡ false) → l || d ≡ goes_on_byte (kind_of b)
unfolding goes_on_byte
by_tests b true true d ew el ed n = let z : ◌≡◌ {A = Bool} true false = n refl in absurd cc
by_tests b true false true ew el ed n = let z : ◌≡◌ {A = Bool} true false = n refl in absurd cc
by_tests b true false false ew el ed n = sym (ap goes_on_byte (kind_white b ew))
by_tests b false true d ew el ed n = sym (ap goes_on_byte (kind_letter b ew el))
by_tests b false false true ew el ed n = sym (ap goes_on_byte (kind_digit b ew el ed))
by_tests b false false false ew el ed n = sym (no_digit b ew el ed)

pub goes_is : (b : ℕ) → is_letter_byte b || is_digit_byte b ≡ goes_on_byte (kind_of b)
goes_is b = by_tests b (is_white_byte b) (is_letter_byte b) (is_digit_byte b) refl refl refl (λ l. no_white b l)
