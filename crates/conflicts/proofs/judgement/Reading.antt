-- Laws of two examples in buffers compared by their words, one for each way through `same_words` and `same_reading`.
use Prim.Native.Nat.{ℕ, suc, ◌+◌, ◌-◌, ◌*◌, ◌≤◌}
use native.Mathlib.Omega.{arith}
use mathlib.Core.Path.{◌≡◌, refl, sym, ap, ◌∙◌}
use mathlib.Core.Bool.{Bool, true, false, ◌&&◌, and-false}
use mathlib.Core.List.{List, [], ◌∷◌, ◌++◌, append_assoc}
use lib.ListN.{length, get_or, take, drop, length-append}
use lib.Seq.{take_at}
use borrow.Author.Tests.{eq-eqb, ne_eqb}
use lib.Dec.{eqb}
use lib.Pointwise.{pointwise}
use Rattle.lr1_base.specs.repr.Sizes.{example_room}
use Rattle.lr1_base.specs.words.Same.{same_words}
use Rattle.lr1_base.specs.words.Lent.{in_front}
use Rattle.lr1_base.specs.repr.Lists.{joined}
use Rattle.lr1_base.specs.repr.Meaning.{nonterminal, terminal, is_same_symbol, Production}
use Rattle.enumerator.specs.example.Example.{ExampleSymbol, symbol, epsilon, symbols, reductions, symbol_words, reduction_words, example_words}
use Rattle.enumerator.proofs.example.Sizes.{twos, length-words}
use Rattle.conflict_sides.specs.conflict.Judge.{Example, cursor_at, same_example_symbol, same_example_symbols, is_same_reading}
use Rattle.conflict_sides.proofs.outline.Prints.{count_in}
use Rattle.conflicts.specs.judgement.Judging.{InBuffer}
use Rattle.lr1_base.proofs.words.Same.{same_pointwise}

-- what `==` answers of two slices

-- the words of symbols are the same where the symbols are

symbol_words_same : (x y : ExampleSymbol) (us vs : List ℕ) → same_words (symbol_words x ++ us) (symbol_words y ++ vs) ≡ same_example_symbol x y && same_words us vs
unfolding same_words symbol_words same_example_symbol is_same_symbol
symbol_words_same (symbol (nonterminal n)) (symbol (nonterminal m)) us vs = refl
symbol_words_same (symbol (nonterminal n)) (symbol (terminal m)) us vs = refl
symbol_words_same (symbol (nonterminal n)) epsilon us vs = refl
symbol_words_same (symbol (terminal n)) (symbol (nonterminal m)) us vs = refl
symbol_words_same (symbol (terminal n)) (symbol (terminal m)) us vs = refl
symbol_words_same (symbol (terminal n)) epsilon us vs = refl
symbol_words_same epsilon (symbol (nonterminal m)) us vs = refl
symbol_words_same epsilon (symbol (terminal m)) us vs = refl
symbol_words_same epsilon epsilon us vs = refl

nothing_same : (x : ExampleSymbol) (us : List ℕ) → same_words [] (symbol_words x ++ us) ≡ false
unfolding same_words symbol_words
nothing_same (symbol (nonterminal n)) us = refl
nothing_same (symbol (terminal n)) us = refl
nothing_same epsilon us = refl

same_nothing : (x : ExampleSymbol) (us : List ℕ) → same_words (symbol_words x ++ us) [] ≡ false
unfolding same_words symbol_words
same_nothing (symbol (nonterminal n)) us = refl
same_nothing (symbol (terminal n)) us = refl
same_nothing epsilon us = refl

words_same : (xs ys : List ExampleSymbol) → same_words (joined symbol_words xs) (joined symbol_words ys) ≡ same_example_symbols xs ys
unfolding joined same_example_symbols same_words
words_same [] [] = refl
words_same [] (y ∷ ys) = nothing_same y (joined symbol_words ys)
words_same (x ∷ xs) [] = same_nothing x (joined symbol_words xs)
words_same (x ∷ xs) (y ∷ ys) = symbol_words_same x y (joined symbol_words xs) (joined symbol_words ys) ∙ ap (λ (b : Bool). same_example_symbol x y && b) (words_same xs ys)

lengths_same : (xs ys : List ExampleSymbol) → (length xs ≡ length ys → ⊥) → same_example_symbols xs ys ≡ false
unfolding same_example_symbols
lengths_same [] [] ne = absurd (ne refl)
lengths_same [] (y ∷ ys) ne = refl
lengths_same (x ∷ xs) [] ne = refl
lengths_same (x ∷ xs) (y ∷ ys) ne = rw (lengths_same xs ys (λ e. ne (ap suc e))) (and-false (same_example_symbol x y))

-- what stands in a buffer

module _ (ps : List Production) (x : Example) (b : List ℕ) (B : InBuffer ps x b) where
  abbrev rest : List ℕ
  rest = drop (length (example_words ps x)) B.before

  in_front_lem : b ≡ example_words ps x ++ rest
  unfolding in_front
  in_front_lem = B.words

  count_is : get_or b 0 0 ≡ length (symbols ps x)
  count_is = count_in ps x b rest in_front_lem

  cursor_is : get_or b 1 0 ≡ cursor_at ps x
  unfolding example_words cursor_at
  cursor_is = ap (λ (l : List ℕ). get_or l 1 0) in_front_lem

  past_counts : drop 3 b ≡ joined symbol_words (symbols ps x) ++ (joined reduction_words (reductions ps x) ++ rest)
  unfolding example_words
  past_counts = ap (drop 3) in_front_lem ∙ append_assoc (joined symbol_words (symbols ps x)) (joined reduction_words (reductions ps x)) rest

  places_are : (c : ℕ) → c ≡ get_or b 0 0 → take (2 * c) (drop 3 b) ≡ joined symbol_words (symbols ps x)
  places_are c e =
      let m : 2 * c ≡ 2 * length (symbols ps x) = omega (arith, count_is) in
      ap (λ (n : ℕ). take n (drop 3 b)) m
      ∙ ap (take (2 * length (symbols ps x))) past_counts
      ∙ take_at (joined symbol_words (symbols ps x)) (joined reduction_words (reductions ps x) ++ rest) (2 * length (symbols ps x)) (twos (symbols ps x))

  pub buffer_room : (3 + 2 * get_or b 0 0 ≤ length b) × (3 + 2 * get_or b 0 0 ≤ example_room)
  buffer_room =
      let l : length b ≡ length (example_words ps x) + length rest = ap length in_front_lem ∙ length-append (example_words ps x) rest in
      let w = length-words ps x in
      let c = count_is in
      let f = B.few in
      (omega arith, omega arith)

-- `same_reading`

module _ (ps : List Production) (x y : Example) (a r : List ℕ) (A : InBuffer ps x a) (R : InBuffer ps y r) where
  pub reading_counts : (m n : ℕ) → m ≡ get_or a 0 0 → n ≡ get_or r 0 0 → (m ≡ n → ⊥) → false ≡ is_same_reading ps x y
  unfolding is_same_reading
  reading_counts m n em en ne =
      let u = count_is ps x a A in
      let v = count_is ps y r R in
      rw (lengths_same (symbols ps x) (symbols ps y) (λ e. ne (omega arith)))

  pub reading_cursors : (m n : ℕ) → m ≡ get_or a 1 0 → n ≡ get_or r 1 0 → (m ≡ n → ⊥) → false ≡ is_same_reading ps x y
  unfolding is_same_reading
  reading_cursors m n em en ne =
      let u : m ≡ cursor_at ps x = em ∙ cursor_is ps x a A in
      let v : n ≡ cursor_at ps y = en ∙ cursor_is ps y r R in
      rw (← u, ← v, ne_eqb m n ne) (sym (and-false (same_example_symbols (symbols ps x) (symbols ps y))))

  pub reading_words : (c d m n past : ℕ) (b : Bool) → c ≡ get_or a 0 0 → d ≡ get_or r 0 0 → c ≡ d → m ≡ get_or a 1 0 → n ≡ get_or r 1 0 → m ≡ n → past ≡ 3 + 2 * c
      → b ≡ pointwise eqb (take (past - 3) (drop 3 a)) (take (past - 3) (drop 3 r)) → b ≡ is_same_reading ps x y
  unfolding is_same_reading
  reading_words c d m n past b ec ed cd em en mn ep q =
      let u : m ≡ cursor_at ps x = em ∙ cursor_is ps x a A in
      let v : n ≡ cursor_at ps y = en ∙ cursor_is ps y r R in
      let l : past - 3 ≡ 2 * c = omega arith in
      q ∙ rw (l, places_are ps x a A c ec, places_are ps y r R c (cd ∙ ed), same_pointwise, words_same (symbols ps x) (symbols ps y), ← u, ← v, eq-eqb m n mn) (sym (and_true' (same_example_symbols (symbols ps x) (symbols ps y))))
    where
      and_true' : (b : Bool) → b && true ≡ b
      and_true' true = refl
      and_true' false = refl
