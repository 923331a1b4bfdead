-- One byte: a law of `step` for each way through the code, and how far a step goes.
use Prim.Native.Nat.{ℕ, ◌+◌, ◌-◌, ◌*◌, ◌≤◌, ◌<◌}
use native.Mathlib.Omega.{arith}
use Rattle.std.specs.Option.{unwrap_or}
use Rattle.std.proofs.lemmas.Bool.Decides.{nat_tests}
use mathlib.Core.Path.{◌≡◌, refl, sym, ap, ◌∙◌}
use mathlib.Core.Bool.{Bool, true, false}
use mathlib.Core.List.{[], ◌∷◌}
use lib.Dec.{eqb, leb}
use lib.ListN.{length}
use borrow.Author.Tests.{le-leb, lt-leb, eq-eqb, ne_eqb}
use Rattle.parse_words.specs.Text.{Reader, Step, goes, fails, ended, line_begun, line_continued, is_space_byte, digit, step}
use Rattle.parse_words.specs.declared.Within.{Within}
use Rattle.parse_words.specs.declared.Within.TheVariants.{Space, Number, Comment}
use Rattle.parse_words.specs.declared.Reader.{Reader as Held}
use Rattle.parse_words.specs.Bytes.{word_of, number_in, in_number_of, in_comment_of, reader_of, words_in, Near}
use Rattle.lr1_base.specs.numerals.Numeral.{is_digit_byte}

if_so : (t : Bool) (x y : Step) → t ≡ true → elim t [ true ↦ x | false ↦ y ] ≡ x
if_so t x y e = ap (λ (s : Bool). elim s [ true ↦ x | false ↦ y ]) e

if_not : (t : Bool) (x y : Step) → t ≡ false → elim t [ true ↦ x | false ↦ y ] ≡ y
if_not t x y e = ap (λ (s : Bool). elim s [ true ↦ x | false ↦ y ]) e

some_space : (b : ℕ) → ((b ≡ 32 → ⊥) → 9 ≤ b) → ((b ≡ 32 → ⊥) → b ≤ 13) → is_space_byte b ≡ true
unfolding is_space_byte
some_space b l u = grind (arith, nat_tests)

no_space : (b : ℕ) → (b ≡ 32 → ⊥) → (9 ≤ b → 13 < b) → is_space_byte b ≡ false
unfolding is_space_byte
no_space b s t = grind (arith, nat_tests)

some_digit : (b : ℕ) → 48 ≤ b → b ≤ 57 → is_digit_byte b ≡ true
unfolding is_digit_byte
some_digit b l h = rw (le-leb 48 b l, le-leb b 57 h)

no_digit : (b : ℕ) → (48 ≤ b → 57 < b) → is_digit_byte b ≡ false
unfolding is_digit_byte
no_digit b d = grind (arith, nat_tests)

-- what a reader stands in
number_so_far : (w : Within) → number_in w ≡ unwrap_or (word_of w) 0
number_so_far Space = refl
number_so_far (Number n) = refl
number_so_far Comment = refl

-- a digit of a number that stays a word, or no longer is one
module _ (r : Held) (d : ℕ) {n : ℕ} (e : n ≡ unwrap_or (word_of r.within) 0) where
  pub digit_large : 65536 ≤ n * 10 + d → fails ≡ digit (reader_of r) d
  unfolding digit
  digit_large h = let f = number_so_far r.within in sym (if_not (leb ((reader_of r).number * 10 + d) 65535) _ _ (lt-leb _ 65535 (omega (arith, f))))

  pub digit-more : (m : ℕ) (q : Held) → m ≡ n * 10 + d → m < 65536 → q ≡ record { line = r.line; column = r.column + 1; within = Number m } → goes [] (reader_of q) ≡ digit (reader_of r) d
  unfolding digit
  digit-more m q f h k =
      let t : (reader_of r).number * 10 + d ≡ m = let g = number_so_far r.within in omega (arith, g, e) in
      rw (k, ← t) (sym (if_so (leb ((reader_of r).number * 10 + d) 65535) _ _ (le-leb _ 65535 (omega (arith, h, t)))))

ended_words : (w : Within) → words_in (word_of w) ≡ elim (in_number_of w) [ true ↦ number_in w ∷ [] | false ↦ [] ]
ended_words Space = refl
ended_words (Number n) = refl
ended_words Comment = refl

words_ended : (r : Held) → words_in (word_of r.within) ≡ ended (reader_of r)
unfolding ended
words_ended r = ended_words r.within

no_words : (w : Within) → in_comment_of w ≡ true → words_in (word_of w) ≡ []
no_words Space e = refl
no_words (Number n) e = cc
no_words Comment e = refl

-- the ways of a byte, the reader after it given as q
module _ (r : Held) (b : ℕ) where
  pub step_line : (q : Reader) → b ≡ 10 → q ≡ line_begun (reader_of r) → goes (words_in (word_of r.within)) q ≡ step (reader_of r) b
  unfolding step
  step_line q e f = rw (eq-eqb b 10 e, f, words_ended r, step)

  module _ (n : b ≡ 10 → ⊥) where
    pub step-comment : (q : Reader) → in_comment_of r.within ≡ true → q ≡ line_continued (reader_of r) true → goes (words_in (word_of r.within)) q ≡ step (reader_of r) b
    unfolding step
    step-comment q c f = rw (f, no_words r.within c) (sym (if_not (eqb b 10) _ _ (ne_eqb b 10 n) ∙ if_so (reader_of r).in_comment _ _ c))

    module _ (c : in_comment_of r.within ≡ false) where
      pub step_space : (q : Reader) → ((b ≡ 32 → ⊥) → 9 ≤ b) → ((b ≡ 32 → ⊥) → b ≤ 13) → q ≡ line_continued (reader_of r) false → goes (words_in (word_of r.within)) q ≡ step (reader_of r) b
      unfolding step
      step_space q l u f = rw (f, words_ended r) (sym (if_not (eqb b 10) _ _ (ne_eqb b 10 n) ∙ if_not (reader_of r).in_comment _ _ c ∙ if_so (is_space_byte b) _ _ (some_space b l u)))

      module _ (s : b ≡ 32 → ⊥) (t : 9 ≤ b → 13 < b) where
        pub step_hash : (q : Reader) → b ≡ 35 → q ≡ line_continued (reader_of r) true → goes (words_in (word_of r.within)) q ≡ step (reader_of r) b
        unfolding step
        step_hash q e f = rw (f, words_ended r) (sym (if_not (eqb b 10) _ _ (ne_eqb b 10 n) ∙ if_not (reader_of r).in_comment _ _ c ∙ if_not (is_space_byte b) _ _ (no_space b s t) ∙ if_so (eqb b 35) _ _ (eq-eqb b 35 e)))

        module _ (h : b ≡ 35 → ⊥) where
          pub step-digit : 48 ≤ b → b ≤ 57 → digit (reader_of r) (b - 48) ≡ step (reader_of r) b
          unfolding step
          step-digit l u = sym (if_not (eqb b 10) _ _ (ne_eqb b 10 n) ∙ if_not (reader_of r).in_comment _ _ c ∙ if_not (is_space_byte b) _ _ (no_space b s t) ∙ if_not (eqb b 35) _ _ (ne_eqb b 35 h) ∙ if_so (is_digit_byte b) _ _ (some_digit b l u))

          pub step_none : (48 ≤ b → 57 < b) → fails ≡ step (reader_of r) b
          unfolding step
          step_none d = sym (if_not (eqb b 10) _ _ (ne_eqb b 10 n) ∙ if_not (reader_of r).in_comment _ _ c ∙ if_not (is_space_byte b) _ _ (no_space b s t) ∙ if_not (eqb b 35) _ _ (ne_eqb b 35 h) ∙ if_not (is_digit_byte b) _ _ (no_digit b d))

-- a step ends at most one word, and moves by at most one line and one column
abbrev pub Short : Reader → Step → Type 0
Short r (goes ws q) = (length ws ≤ 1) × Near r q 1
Short r fails = 0 ≤ 1

either : (P : Step → Type 0) (t : Bool) (x y : Step) → P x → P y → P (elim t [ true ↦ x | false ↦ y ])
either P true x y p q = p
either P false x y p q = q

one_ended : (r : Reader) → length (ended r) ≤ 1
unfolding ended
one_ended r = go r.in_number
  where
    go : (t : Bool) → length {A = ℕ} (elim t [ true ↦ r.number ∷ [] | false ↦ [] ]) ≤ 1
    go true = omega arith
    go false = omega arith

near_line : (r : Reader) → Near r (line_begun r) 1
unfolding line_begun
near_line r = record { line_near = omega arith; column_near = omega arith }

near_on : (r : Reader) (c : Bool) → Near r (line_continued r c) 1
unfolding line_continued
near_on r c = record { line_near = omega arith; column_near = omega arith }

short_digit : (r : Reader) (d : ℕ) → Short r (digit r d)
unfolding digit
short_digit r d = either (Short r) (leb (r.number * 10 + d) 65535) _ _ (omega arith, record { line_near = omega arith; column_near = omega arith }) (omega arith)

pub short : (r : Reader) (b : ℕ) → Short r (step r b)
unfolding step
short r b =
    either (Short r) (eqb b 10) _ _ (one_ended r, near_line r)
    (either (Short r) r.in_comment _ _ (omega arith, near_on r true)
    (either (Short r) (is_space_byte b) _ _ (one_ended r, near_on r false)
    (either (Short r) (eqb b 35) _ _ (one_ended r, near_on r true)
    (either (Short r) (is_digit_byte b) _ _ (short_digit r (b - 48)) (omega arith)))))
