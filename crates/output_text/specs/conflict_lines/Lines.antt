-- The lines that the explaining program prints (docs/RULES.md, "The explaining program"), as bytes.
use Rattle.std.specs.Prelude.{ℕ, ◌+◌, ◌*◌, ◌≤◌, ◌≡◌, true, false, Result, Ok, Err, List, [], ◌∷◌, ◌++◌, length, get_or, take, drop, eqb}
use Rattle.lr1_base.specs.repr.Sizes.{reduction_limit, example_symbols, reduction_room, reduction_place}
use Rattle.lr1_base.specs.repr.Lists.{joined}
use Rattle.lr1_base.specs.numerals.Numeral.{numeral}
use Rattle.conflict_sides.specs.conflict.Numbers.{number_of_class, values_of_class, Reading, classed, refused}
use Rattle.conflict_sides.specs.declared.conflict.Classification.{Classification}

-- a number after a space
unfoldable pub spaced : ℕ → List ℕ
spaced n = 32 ∷ numeral n

-- kind/number after a space
unfoldable pub symbol_text : ℕ → ℕ → List ℕ
symbol_text k n = spaced k ++ (47 ∷ numeral n)

-- start-end/nonterminal after a space
unfoldable pub reduction_text : ℕ → ℕ → ℕ → List ℕ
reduction_text a b n = spaced a ++ ((45 ∷ numeral b) ++ (47 ∷ numeral n))

unfoldable pub symbol_texts : List ℕ → List ℕ
symbol_texts [] = []
symbol_texts (k ∷ []) = []
symbol_texts (k ∷ n ∷ ws) = symbol_text k n ++ symbol_texts ws

unfoldable pub reduction_texts : List ℕ → List ℕ
reduction_texts [] = []
reduction_texts (a ∷ []) = []
reduction_texts (a ∷ b ∷ []) = []
reduction_texts (a ∷ b ∷ n ∷ ws) = reduction_text a b n ++ reduction_texts ws

-- how many symbols stand in a list of places: all but the empty mark, kind 2
unfoldable pub counted : ℕ → ℕ
counted k = elim (eqb k 2) [ true ↦ 0 | false ↦ 1 ]

unfoldable pub total_of_symbols : List ℕ → ℕ
total_of_symbols [] = 0
total_of_symbols (k ∷ []) = 0
total_of_symbols (k ∷ n ∷ ws) = counted k + total_of_symbols ws

-- of an example in words
unfoldable pub printed_length : List ℕ → ℕ
printed_length b = total_of_symbols (take (2 * get_or b 0 0) (drop 3 b))

-- `a` or `r`, then length (symbols; the empty mark is printed in its place and not counted), cursor (a place), symbols, reductions
unfoldable pub example_line : ℕ → List ℕ → List ℕ
example_line letter b =
    letter
    ∷ (spaced (printed_length b)
    ++ (spaced (get_or b 1 0)
    ++ (symbol_texts (take (2 * get_or b 0 0) (drop 3 b))
    ++ (reduction_texts (take (reduction_room * get_or b 2 0) (drop (3 + 2 * get_or b 0 0) b)) ++ (10 ∷ [])))))

-- the class's own: nonterminal (2, 3), nonterminal and kind/number (4), four span words (5)
unfoldable pub own_text : List ℕ → List ℕ
own_text [] = []
own_text (n ∷ []) = spaced n
own_text (a ∷ b ∷ []) = spaced a ++ spaced b
own_text (n ∷ k ∷ x ∷ []) = spaced n ++ symbol_text k x
own_text (a ∷ b ∷ c ∷ d ∷ vs) = spaced a ++ (spaced b ++ (spaced c ++ (spaced d ++ joined spaced vs)))

-- conflict, class, trials of the action side and of the reduce side, the class's own
unfoldable pub class_line : ℕ → ℕ → List ℕ → ℕ → ℕ → List ℕ
class_line k c vs m n = numeral k ++ (spaced c ++ (spaced m ++ (spaced n ++ (own_text vs ++ (10 ∷ [])))))

-- ` refused`
abbrev pub refused_text : List ℕ
refused_text = 32 ∷ 114 ∷ 101 ∷ 102 ∷ 117 ∷ 115 ∷ 101 ∷ 100 ∷ []

unfoldable pub line_of_refusal : ℕ → ℕ → ℕ → List ℕ
line_of_refusal k n p = numeral k ++ (refused_text ++ (spaced n ++ (spaced p ++ (10 ∷ []))))

-- the examples shown with a class: naive none, class 5 the action's
unfoldable pub example_lines : ℕ → List ℕ → List ℕ → List ℕ
example_lines c action reduce = elim (eqb c 0) [
  | true ↦ []
  | false ↦ elim (eqb c 5) [ true ↦ example_line 97 action | false ↦ example_line 97 action ++ example_line 114 reduce ]
]

-- what classifying says, where a refusal is any number and place
unfoldable pub reading_in : Result Classification (ℕ × ℕ) → Reading
reading_in (Ok k) = classed (number_of_class k.class) (values_of_class k.class) k.action_trials k.reduce_trials
reading_in (Err e) = refused e.0 e.1

-- the lines of conflict k
unfoldable pub lines_of : ℕ → Reading → List ℕ → List ℕ → List ℕ
lines_of k (refused n p) action reduce = line_of_refusal k n p
lines_of k (classed c vs m n) action reduce = class_line k c vs m n ++ example_lines c action reduce

-- text put into a list of bytes at a place, and the place after it; bytes past that are free
pub record Put (old : List ℕ) (at : ℕ) (text new : List ℕ) (after : ℕ) : Type 0 where
  pub front : take after new ≡ take at old ++ text
  pub place : after ≡ at + length text
  pub long : length new ≡ length old

-- an example's words are whole: its counts within the limits, and all its symbols and reductions there
pub record Whole (b : List ℕ) : Type 0 where
  pub few_symbols : get_or b 0 0 ≤ example_symbols
  pub few_reductions : get_or b 2 0 ≤ reduction_limit
  pub long : reduction_place (get_or b 0 0) (get_or b 2 0) ≤ length b

-- the examples that are shown with class c are whole: both of classes 1 to 4 and 6, the action's of class 5
pub record Shown (c : ℕ) (action reduce : List ℕ) : Type 0 where
  pub action_whole : (c ≡ 0 → ⊥) → Whole action
  pub reduce_whole : (c ≡ 0 → ⊥) → (c ≡ 5 → ⊥) → Whole reduce

unfoldable pub ReadingShown : Reading → List ℕ → List ℕ → Type 0
ReadingShown (refused n p) action reduce = Unit {0}
ReadingShown (classed c vs m n) action reduce = Shown c action reduce
