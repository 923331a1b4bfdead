-- The inline test (`try_classify_inline_example`; docs/RULES.md, "Classes") on what is kept of two examples: on the suffixes of two items. Assumes nothing: these are definitions.
use Rattle.std.specs.Prelude.{ℕ, ◌/◌, ◌%◌, ◌<◌, ◌≤◌, Bool, true, false, ◌&&◌, List, [], ◌∷◌, length, nat_lt, slice_index_or, Option as OptionOf, Some, None}
use Rattle.lr1_base.specs.repr.Sizes.{index_limit, item_limit}
use Rattle.lr1_base.specs.repr.Meaning.{Symbol, is_same_symbol, Production, no_production, Table}
use Rattle.lr1_base.specs.item.Items.{symbol_sets}
use Rattle.lr1_base.specs.declared.item.Item.{Item as ItemOf}
use Rattle.first.specs.First.{first0, disjoint, sets_of_first}
use Rattle.conflict_sides.specs.conflict.Judge.{Example}
use Rattle.conflict_sides.specs.declared.outline.Outline.{Outline}

-- the symbols of the item's production, and those after its cursor
unfoldable pub symbols_at : List Production → ℕ → List Symbol
symbols_at ps code = (slice_index_or ps (code / index_limit) no_production).symbols

unfoldable pub suffix_at : List Production → ℕ → List Symbol
suffix_at ps code = (symbol_sets (symbols_at ps code) (code % index_limit)).suffix

-- FIRST of two symbols disjoint, by the end of input e and the sets of the nonterminals: no terminal in both, and not both nullable
unfoldable pub apart : ℕ → List ℕ → Symbol → Symbol → Bool
apart e sets x y = disjoint (first0 e sets (x ∷ [])) (first0 e sets (y ∷ []))

-- `diverge` of error on symbols without the empty mark
unfoldable pub diverge_by : ℕ → List ℕ → List Symbol → List Symbol → Bool
diverge_by e sets [] ys = false
diverge_by e sets (x ∷ xs) [] = false
diverge_by e sets (x ∷ xs) (y ∷ ys) = elim (is_same_symbol x y) [ true ↦ diverge_by e sets xs ys | false ↦ apart e sets x y ]

-- the other is an item, and the two suffixes diverge
unfoldable pub codes_inline : ℕ → List ℕ → List Production → ℕ → ℕ → Bool
codes_inline e sets ps label other = nat_lt other item_limit && diverge_by e sets (suffix_at ps label) (suffix_at ps other)

-- the same on items: of an item the symbols after its cursor
unfoldable pub suffix_of : List Production → ItemOf → List Symbol
suffix_of ps i = (symbol_sets (slice_index_or ps i.production no_production).symbols i.index).suffix

unfoldable pub items_inline : ℕ → List ℕ → List Production → ItemOf → OptionOf ItemOf → Bool
items_inline e sets ps own None = false
items_inline e sets ps own (Some other) = diverge_by e sets (suffix_of ps own) (suffix_of ps other)

unfoldable pub inlines_by : Table → Outline → Outline → Bool
inlines_by T a r = codes_inline T.terminals (sets_of_first T.terminals T.productions) T.productions a.label r.label

-- an item of the productions
pub record CodeFits (ps : List Production) (code : ℕ) : Type 0 where
  pub production : code / index_limit < length ps
  pub index : code % index_limit ≤ length (symbols_at ps code)

-- the example's first label has a symbol at its cursor
unfoldable pub Shifts : List Production → Example → Type 0
Shifts ps [] = ⊥
Shifts ps (l ∷ ls) = l.index < length (slice_index_or ps l.production no_production).symbols
