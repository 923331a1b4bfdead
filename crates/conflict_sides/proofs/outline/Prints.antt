-- Prints of readings (specs/outline/Outline): below 2 ^ 48, and equal where the readings are; the same over words. Assumes nothing.
use Rattle.std.proofs.Common.{◌≡◌, ℕ, ◌%◌, ◌<◌, true, false, List, [], ◌∷◌, ◌++◌, map, length, get_or, sym, refl, ap, ◌∙◌, append_assoc, arith, eqb-true}
use Rattle.lr1_base.specs.repr.Lists.{joined}
use Rattle.lr1_base.specs.repr.Meaning.{Symbol, nonterminal, terminal, Production}
use Rattle.lr1_base.proofs.repr.Lists.{clash}
use Rattle.lr1_base.proofs.laws.Bools.{and_left, and_right}
use Rattle.lr1_base.proofs.repr.SameSymbol.{same_equal}
use Rattle.enumerator.specs.example.Example.{ExampleSymbol, symbol, epsilon, prefixes, suffixes, middle, symbols, symbol_words, reductions, reduction_words, example_words}
use Rattle.enumerator.specs.example.Written.{words_of, Part}
use Rattle.enumerator.proofs.example.Walk.{symbol_words_lem}
use Rattle.conflict_sides.specs.conflict.Judge.{Example, cursor_at, same_example_symbol, same_example_symbols, is_same_reading}
use Rattle.conflict_sides.specs.outline.Outline.{print_limit, mix, symbol_code, code_of, print_from, print_of, print_words}

-- the tests of error decide equality

place_same : (x y : ExampleSymbol) → same_example_symbol x y ≡ true → x ≡ y
unfolding same_example_symbol
place_same (symbol x) (symbol y) e = ap {B = ExampleSymbol} symbol (same_equal x y e)
place_same (symbol x) epsilon e = clash false e refl
place_same epsilon (symbol y) e = clash false e refl
place_same epsilon epsilon e = refl

places_same : (xs ys : List ExampleSymbol) → same_example_symbols xs ys ≡ true → xs ≡ ys
unfolding same_example_symbols
places_same [] [] e = refl
places_same [] (y ∷ ys) e = clash false e refl
places_same (x ∷ xs) [] e = clash false e refl
places_same (x ∷ xs) (y ∷ ys) e =
    let here = place_same x y (and_left _ _ e) in
    let rest = places_same xs ys (and_right (same_example_symbol x y) _ e) in
    rw (here, rest)

module _ (ps : List Production) where
  -- equal readings have equal prints
  pub same_print : (a r : Example) → is_same_reading ps a r ≡ true → print_of ps a ≡ print_of ps r
  unfolding is_same_reading print_of
  same_print a r e =
      let s = places_same (symbols ps a) (symbols ps r) (and_left _ _ e) in
      let c = eqb-true (cursor_at ps a) (cursor_at ps r) (and_right (same_example_symbols (symbols ps a) (symbols ps r)) _ e) in
      rw (s, c)

  from_small : (h : ℕ) (xs : List ExampleSymbol) → h < print_limit → print_from h xs < print_limit
  unfolding print_from mix
  from_small h [] l = l
  from_small h (x ∷ xs) l = from_small (mix h (code_of x)) xs (omega arith)

  pub print_small : (ls : Example) → print_of ps ls < print_limit
  unfolding print_of
  print_small ls = from_small (cursor_at ps ls % print_limit) (symbols ps ls) (omega arith)

-- over the words

from-words : (h : ℕ) (xs : List ExampleSymbol) → print_words h (joined symbol_words xs) ≡ print_from h xs
unfolding print_words print_from joined symbol_words code_of
from-words h [] = refl
from-words h (symbol (nonterminal n) ∷ xs) = from-words (mix h (symbol_code 0 n)) xs
from-words h (symbol (terminal n) ∷ xs) = from-words (mix h (symbol_code 1 n)) xs
from-words h (epsilon ∷ xs) = from-words (mix h (symbol_code 2 0)) xs

-- an example in words

module _ (ps : List Production) (ls : Example) (ws tail : List ℕ) (e : ws ≡ example_words ps ls ++ tail) where
  front : ws ≡ length (symbols ps ls) ∷ length (prefixes ps ls) ∷ length ls ∷ (joined symbol_words (symbols ps ls) ++ (joined reduction_words (reductions ps ls) ++ tail))
  unfolding example_words
  front = e ∙ ap (λ (l : List ℕ). length (symbols ps ls) ∷ length (prefixes ps ls) ∷ length ls ∷ l) (append_assoc (joined symbol_words (symbols ps ls)) (joined reduction_words (reductions ps ls)) tail)

  pub count_in : get_or ws 0 0 ≡ length (symbols ps ls)
  count_in = ap (λ (l : List ℕ). get_or l 0 0) front

-- symbols in front, and then the rest

words_on : (h : ℕ) (xs : List ExampleSymbol) (ys : List ℕ) → print_words h (joined symbol_words xs ++ ys) ≡ print_words (print_words h (joined symbol_words xs)) ys
unfolding print_words joined symbol_words
words_on h [] ys = refl
words_on h (symbol (nonterminal n) ∷ xs) ys = words_on (mix h (symbol_code 0 n)) xs ys
words_on h (symbol (terminal n) ∷ xs) ys = words_on (mix h (symbol_code 1 n)) xs ys
words_on h (epsilon ∷ xs) ys = words_on (mix h (symbol_code 2 0)) xs ys

-- a label's part: from its print the rest gives what the whole gives
pub part_on : (h : ℕ) (part : List ℕ) (xs : List Symbol) → Part part xs → (whole rest : List ℕ) → whole ≡ part ++ rest → (r : ℕ) → r ≡ print_words h part → print_words r rest ≡ print_words h whole
unfolding words_of
part_on h part xs P whole rest e r q = rw (q, e, P.words) (sym (words_on h (map symbol xs) rest))

module _ (ps : List Production) (ls : Example) where
  -- `print`: prefixes, cursor place and suffixes
  pub print_whole : (c a b r : ℕ) → c ≡ length (prefixes ps ls) → c < print_limit → a ≡ print_words c (words_of (prefixes ps ls)) → b ≡ print_words a (joined symbol_words (middle ps ls))
      → r ≡ print_words b (words_of (suffixes ps ls)) → r ≡ print_of ps ls
  unfolding print_of cursor_at words_of
  print_whole c a b r ec l ea eb er =
      let m : length (prefixes ps ls) % print_limit ≡ c = omega arith in
      let x = words_on c (map symbol (prefixes ps ls)) (joined symbol_words (middle ps ls) ++ words_of (suffixes ps ls)) in
      let y = words_on a (middle ps ls) (words_of (suffixes ps ls)) in
      er ∙ ap (λ (h : ℕ). print_words h (words_of (suffixes ps ls))) eb ∙ sym y
      ∙ ap (λ (h : ℕ). print_words h (joined symbol_words (middle ps ls) ++ words_of (suffixes ps ls))) ea ∙ sym x
      ∙ ap (print_words c) (sym (symbol_words_lem ps ls)) ∙ from-words c (symbols ps ls) ∙ ap (λ (h : ℕ). print_from h (symbols ps ls)) (sym m)

-- no words

pub words-none : (h : ℕ) (ws : List ℕ) → ws ≡ [] → h ≡ print_words h ws
unfolding print_words
words-none h ws e = rw e

-- `print_list`: two words at a time, and what is left decides

pub list_end : (h : ℕ) (ws : List ℕ) → length ws < 2 → print_words h ws ≡ h
unfolding print_words
list_end h [] l = refl
list_end h (k ∷ []) l = refl
list_end h (k ∷ n ∷ ws) l = absurd (omega arith)

pub list_more : (h : ℕ) (ws two rest : List ℕ) → ws ≡ two ++ rest → length two ≡ 2 → (k n r : ℕ) → k ≡ get_or two 0 0 → n ≡ get_or two 1 0 → r ≡ mix h (symbol_code k n) → print_words r rest ≡ print_words h ws
unfolding print_words
list_more h ws [] rest e l k n r ek en er = absurd (omega arith)
list_more h ws (x ∷ []) rest e l k n r ek en er = absurd (omega arith)
list_more h ws (x ∷ y ∷ []) rest e l k n r ek en er = rw (e, er, ek, en)
list_more h ws (x ∷ y ∷ z ∷ zs) rest e l k n r ek en er = absurd (omega arith)
