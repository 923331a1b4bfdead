-- How the code writes an example: lists of symbols as parts of the packed words, and the reductions innermost first, each from the labels around it.
use Rattle.std.specs.Prelude.{◌≡◌, ℕ, ◌-◌, true, List, [], ◌∷◌, map, length, slice_index_or}
use Rattle.lr1_base.specs.repr.Sizes.{nonterminal_limit, terminal_limit}
use Rattle.lr1_base.specs.repr.Lists.{joined}
use Rattle.lr1_base.specs.repr.Meaning.{Symbol, Production}
use Rattle.lr1_base.specs.repr.Listed.{list_is_fit}
use Rattle.enumerator.specs.example.Example.{Label, symbol, prefixes, suffixes, Reduction, symbol_words, reduction_words}
use Rattle.enumerator.specs.example.Labels.{labels_in}

abbrev pub no_label : Label
no_label = record { nonterminal = 0; production = 0; index = 0 }

-- label j, 0 the innermost
unfoldable pub label_at : List ℕ → ℕ → Label
label_at ws j = slice_index_or (labels_in ws) j no_label

-- symbols in words
unfoldable pub words_of : List Symbol → List ℕ
words_of xs = joined symbol_words (map symbol xs)

-- the words are those of the symbols, each in range
pub record Part (ws : List ℕ) (xs : List Symbol) : Type 0 where
  pub words : ws ≡ words_of xs
  pub fits : list_is_fit nonterminal_limit terminal_limit ws ≡ true

-- a reduction starts after the prefixes of the labels around it, and ends before their suffixes; n places in all
unfoldable pub around : List Production → ℕ → List Label → List Reduction
around ps n [] = []
around ps n (l ∷ ls) =
    record { start = length (prefixes ps ls); end = n - length (suffixes ps ls); nonterminal = l.nonterminal } ∷ around ps n ls

unfoldable pub around_words : List Production → ℕ → List Label → List ℕ
around_words ps n ls = joined reduction_words (around ps n ls)
