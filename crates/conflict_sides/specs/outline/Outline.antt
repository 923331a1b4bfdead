-- What is kept of an example while a conflict is judged: its number of places, a print of its reading, the nonterminal of its first
-- reduction, and one label. Assumes nothing: these are definitions.
use Rattle.std.specs.Prelude.{ℕ, ◌+◌, ◌*◌, ◌%◌, ◌^◌, ◌<◌, ◌≤◌, Bool, true, false, ◌||◌, List, [], ◌∷◌, length, ◌==◌, Option as OptionOf, Some, None}
use Rattle.lr1_base.specs.repr.Sizes.{nonterminal_limit, index_limit, item_limit, example_symbols}
use Rattle.lr1_base.specs.repr.Meaning.{nonterminal, terminal, Production}
use Rattle.enumerator.specs.example.Example.{Label, sets_of, ExampleSymbol, symbol, epsilon, symbols}
use Rattle.conflict_sides.specs.conflict.Judge.{Example, symbol_count, cursor_at, reduction_at}
use Rattle.lr1_base.specs.declared.item.Item.{Item as ItemOf}
use Rattle.conflict_sides.specs.declared.outline.Outline.{Outline}

-- a print is below 2 ^ 48, and a print times the base below 2 ^ 63
abbrev pub print_limit : ℕ
print_limit = 2 ^ 48

abbrev pub print_base : ℕ
print_base = 25173

unfoldable pub mix : ℕ → ℕ → ℕ
mix h x = (h * print_base + x) % print_limit

-- a symbol by kind and number, as its words have them; none is 0
unfoldable pub symbol_code : ℕ → ℕ → ℕ
symbol_code kind number = 64 * kind + number + 1

unfoldable pub code_of : ExampleSymbol → ℕ
code_of (symbol (nonterminal n)) = symbol_code 0 n
code_of (symbol (terminal t)) = symbol_code 1 t
code_of epsilon = symbol_code 2 0

unfoldable pub print_from : ℕ → List ExampleSymbol → ℕ
print_from h [] = h
print_from h (x ∷ xs) = print_from (mix h (code_of x)) xs

-- the print of a reading: of the cursor and the symbols in their order
unfoldable pub print_of : List Production → Example → ℕ
print_of ps ls = print_from (cursor_at ps ls % print_limit) (symbols ps ls)

-- the same over symbols in words
unfoldable pub print_words : ℕ → List ℕ → ℕ
print_words h [] = h
print_words h (k ∷ []) = h
print_words h (k ∷ n ∷ ws) = print_words (mix h (symbol_code k n)) ws

-- an item in one number; `item_limit` is none
unfoldable pub item_code : Label → ℕ
item_code l = l.production * index_limit + l.index

-- the code's item in one number, or none
abbrev pub label_word : OptionOf ItemOf → ℕ
label_word None = item_limit
label_word (Some i) = i.production * index_limit + i.index

-- where the second reduction is the first to shift more, and its nonterminal is another: its item
unfoldable pub next_item : List Production → Label → Label → ℕ
next_item ps l m = elim (m.nonterminal == l.nonterminal || length (sets_of ps m).suffix == 0) [ true ↦ item_limit | false ↦ item_code m ]

-- the label that the inline test reads: of an example of a shift the shift item, of a reduce the item of the second reduction
unfoldable pub label_of : List Production → Bool → Example → ℕ
label_of ps shift [] = item_limit
label_of ps true (l ∷ ls) = item_code l
label_of ps false (l ∷ []) = item_limit
label_of ps false (l ∷ m ∷ ls) = next_item ps l m

unfoldable pub outline_from : List Production → Bool → Example → Outline
outline_from ps shift ls = record {
  places = symbol_count ps ls;
  print = print_of ps ls;
  first = (reduction_at ps ls 0).nonterminal;
  label = label_of ps shift ls;
}

-- each number in range of the array that keeps it
pub record OutlineFits (o : Outline) : Type 0 where
  pub places : o.places ≤ example_symbols
  pub print : o.print < print_limit
  pub first : o.first < nonterminal_limit
  pub label : o.label ≤ item_limit
