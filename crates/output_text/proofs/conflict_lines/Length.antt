-- The printed length of an example (docs/RULES.md, "The explaining program") is the number of its symbols: prefixes, the symbol at the cursor if there is one, suffixes. So it is the number of
-- places, or one less where the empty mark stands at the cursor.
use Prim.Native.Nat.{ℕ, ◌+◌, ◌≤◌}
use native.Mathlib.Omega.{arith}
use mathlib.Core.Path.{◌≡◌, refl, sym, ap, ◌∙◌}
use mathlib.Core.List.{List, [], ◌∷◌, ◌++◌, map}
use mathlib.Core.Option.{Option, none, some}
use lib.ListN.{length, take}
use lib.Seq.{take-append_seam}
use Rattle.lr1_base.specs.repr.Lists.{joined}
use Rattle.lr1_base.specs.repr.Meaning.{Symbol, nonterminal, terminal, Production}
use Rattle.lr1_base.proofs.repr.Lists.{joined_append}
use Rattle.enumerator.specs.example.Example.{Label, sets_of, ExampleSymbol, symbol, prefixes, suffixes, at_cursor, middle, symbols, reductions, symbol_words, reduction_words, example_words, cursor_of}
use Rattle.enumerator.proofs.example.Sizes.{twos, length_symbols}
use Rattle.output_text.specs.conflict_lines.Lines.{counted, total_of_symbols, printed_length}
use Rattle.output_text.proofs.conflict_lines.Texts.{total_append}

abbrev total : List ExampleSymbol → ℕ
total xs = total_of_symbols (joined symbol_words xs)

total_joined : (xs ys : List ExampleSymbol) → total (xs ++ ys) ≡ total xs + total ys
total_joined xs ys =
    let t = twos xs in
    ap total_of_symbols (joined_append symbol_words xs ys) ∙ total_append (length xs) (joined symbol_words xs) (joined symbol_words ys) (omega arith)

total_symbols : (xs : List Symbol) → total (map symbol xs) ≡ length xs
unfolding joined symbol_words total_of_symbols counted
total_symbols [] = refl
total_symbols (nonterminal n ∷ xs) = let e = total_symbols xs in omega (arith, e)
total_symbols (terminal t ∷ xs) = let e = total_symbols xs in omega (arith, e)

-- at the cursor place: a symbol or a mark, or nothing
at_cursor_lem : (x : Option Symbol) (before : List Symbol) → (total (at_cursor x before) ≡ length {A = Symbol} (elim x [ some y ↦ y ∷ [] | none ↦ [] ])) × (total (at_cursor x before) ≤ length (at_cursor x before)) × (length (at_cursor x before) ≤ total (at_cursor x before) + 1)
unfolding joined symbol_words total_of_symbols counted at_cursor
at_cursor_lem (some (nonterminal n)) before = (refl, omega arith, omega arith)
at_cursor_lem (some (terminal t)) before = (refl, omega arith, omega arith)
at_cursor_lem none [] = (refl, omega arith, omega arith)
at_cursor_lem none (y ∷ ys) = (refl, omega arith, omega arith)

module _ (ps : List Production) where
  total_middle : (ls : List Label) → (total (middle ps ls) ≡ length (cursor_of ps ls)) × (total (middle ps ls) ≤ length (middle ps ls)) × (length (middle ps ls) ≤ total (middle ps ls) + 1)
  unfolding middle cursor_of joined total_of_symbols
  total_middle [] = (refl, omega arith, omega arith)
  total_middle (l ∷ ls) = at_cursor_lem (sets_of ps l).cursor (sets_of ps l).prefix

  total_example : (ls : List Label) → total (symbols ps ls) ≡ length (prefixes ps ls) + (length (cursor_of ps ls) + length (suffixes ps ls))
  unfolding symbols
  total_example ls =
      total_joined (map symbol (prefixes ps ls)) (middle ps ls ++ map symbol (suffixes ps ls))
      ∙ (λ i. total_symbols (prefixes ps ls) i + (total_joined (middle ps ls) (map symbol (suffixes ps ls)) ∙ (λ j. (total_middle ls).0 j + total_symbols (suffixes ps ls) j)) i)

  printed-all : (ls : List Label) → printed_length (example_words ps ls) ≡ total (symbols ps ls)
  unfolding printed_length example_words
  printed-all ls =
      let rest = joined reduction_words (reductions ps ls) in
      ap total_of_symbols
      (ap (λ (n : ℕ). take n (joined symbol_words (symbols ps ls) ++ rest)) (sym (twos (symbols ps ls)))
      ∙ take-append_seam (joined symbol_words (symbols ps ls)) rest)

  pub printed_length_lem : (ls : List Label) → printed_length (example_words ps ls) ≡ length (prefixes ps ls) + (length (cursor_of ps ls) + length (suffixes ps ls))
  printed_length_lem ls = printed-all ls ∙ total_example ls

  pub printed-places : (ls : List Label) → (printed_length (example_words ps ls) ≤ length (symbols ps ls)) × (length (symbols ps ls) ≤ printed_length (example_words ps ls) + 1)
  printed-places ls =
      let p = printed_length_lem ls in
      let s = length_symbols ps ls in
      let m = total_middle ls in
      (omega (arith, p, s, m), omega (arith, p, s, m))
