-- The pairs of two orders from a place on, in product order, and the first of them that passes a test (`try_classify_ambiguity` and `try_classify_inline`; docs/RULES.md, "Classes", "Lent words").
use Rattle.std.specs.Prelude.{Option as OptionOf, Some, None, ℕ, ◌+◌, ◌<◌, ◌≡◌, Bool, true, false, List, ◌++◌, length, get_or, take, drop, eqb}
use Rattle.std.proofs.Math.Option.{Option, none, some}
use Rattle.lr1_base.specs.repr.Sizes.{item_limit, example_limit}
use Rattle.lr1_base.specs.repr.Lists.{first?}
use Rattle.lr1_base.specs.repr.Meaning.{Production, All}
use Rattle.conflict_sides.specs.conflict.Sorted.{Pair, product}
use Rattle.conflict_sides.specs.declared.outline.Outline.{Outline}
use Rattle.conflict_sides.specs.outline.Kept.{outline_in}
use Rattle.conflict_sides.specs.outline.Inline.{CodeFits, codes_inline}
use Rattle.conflicts.specs.declared.pairs.Test.{Test}
use Rattle.conflicts.specs.declared.pairs.Test.TheVariants.{Alike, Inline}

-- the test on two outlines: equal prints; or the inline test on the kept labels (e: the end of input, sets: the FIRST sets)
unfoldable pub test_by : ℕ → List ℕ → List Production → Test → Outline → Outline → Bool
test_by e sets ps Alike a r = eqb a.print r.print
test_by e sets ps Inline a r = codes_inline e sets ps a.label r.label

-- the test reads the same of two outlines
unfoldable pub are_read_alike : Test → Outline → Outline → Bool
are_read_alike Alike a b = eqb a.print b.print
are_read_alike Inline a b = eqb a.label b.label

-- a test on the examples of two numbers
unfoldable pub pair_by : (Outline → Outline → Bool) → List ℕ → List ℕ → List ℕ → List ℕ → ℕ → ℕ → Bool
pair_by t actions prints reduces others x y = t (outline_in actions prints x) (outline_in reduces others y)

-- what the test reads is in range: of an action's outline, and of a reduce's
unfoldable pub ActionFits : List Production → Test → Outline → Type 0
ActionFits ps Alike o = Unit {0}
ActionFits ps Inline o = CodeFits ps o.label

unfoldable pub ReduceFits : List Production → Test → Outline → Type 0
ReduceFits ps Alike o = Unit {0}
ReduceFits ps Inline o = o.label < item_limit → CodeFits ps o.label

unfoldable pub RowFits : List Production → List ℕ → List ℕ → Test → ℕ → Type 0
RowFits ps kept prints test x = (x < example_limit) × ActionFits ps test (outline_in kept prints x)

unfoldable pub ColumnFits : List Production → List ℕ → List ℕ → Test → ℕ → Type 0
ColumnFits ps kept prints test y = (y < example_limit) × ReduceFits ps test (outline_in kept prints y)

-- the rest of row i from column j on, then the later rows
unfoldable pub pairs_from : List ℕ → List ℕ → ℕ → ℕ → List (Pair ℕ)
pairs_from rows columns i j = product (take 1 (drop i rows)) (drop j columns) ++ product (drop (i + 1) rows) columns

-- the first of them that passes
unfoldable pub first_from : (ℕ → ℕ → Bool) → List ℕ → List ℕ → ℕ → ℕ → Option (Pair ℕ)
first_from t rows columns i j = first? (λ p. t p.action p.reduce) (pairs_from rows columns i j)

unfoldable pub Misses : (ℕ → ℕ → Bool) → Pair ℕ → Type 0
Misses t p = t p.action p.reduce ≡ false

-- an action's outline passes with none of some columns
unfoldable pub MissesAll : (Outline → Outline → Bool) → List ℕ → List ℕ → Outline → List ℕ → Type 0
MissesAll t reduces others a columns = All (λ y. t a (outline_in reduces others y) ≡ false) columns

-- from row i, column j up to row k, column l no pair passes
pub record Passed (t : ℕ → ℕ → Bool) (rows columns : List ℕ) (i j k l : ℕ) : Type 0 where
  pub pairs : List (Pair ℕ)
  pub miss : All (Misses t) pairs
  pub split : pairs_from rows columns i j ≡ pairs ++ pairs_from rows columns k l

-- and there one does
pub record Stopped (t : ℕ → ℕ → Bool) (rows columns : List ℕ) (i j k l : ℕ) : Type 0 where
  pub row : k < length rows
  pub column : l < length columns
  pub fits : t (get_or rows k 0) (get_or columns l 0) ≡ true
  pub passed : Passed t rows columns i j k l

-- the first pair from a place on that passes, by its row and column, or none
unfoldable pub FirstFrom : (ℕ → ℕ → Bool) → List ℕ → List ℕ → ℕ → ℕ → OptionOf (ℕ × ℕ) → Type 0
FirstFrom t rows columns i j (Some found) = Stopped t rows columns i j found.0 found.1
FirstFrom t rows columns i j None = All (Misses t) (pairs_from rows columns i j)

-- a pair by its row and column, and one of other things by the numbers of its two
unfoldable pub found_pair : List ℕ → List ℕ → OptionOf (ℕ × ℕ) → Option (Pair ℕ)
found_pair rows columns (Some found) = some (record { action = get_or rows found.0 0; reduce = get_or columns found.1 0 })
found_pair rows columns None = none

unfoldable pub on_pair : {A : Type 0} → (ℕ → A) → (ℕ → A) → Option (Pair ℕ) → Option (Pair A)
on_pair f g none = none
on_pair f g (some p) = some (record { action = f p.action; reduce = g p.reduce })
