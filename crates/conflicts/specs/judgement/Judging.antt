-- What the contracts of this crate cite: two sides as they are kept, a class with the numbers of the examples shown, the first pair that is read alike.
use Rattle.std.specs.Prelude.{Option as OptionOf, Some, None, ℕ, ◌≤◌, ◌<◌, ◌≡◌, false, List, [], ◌∷◌, map, length, get_or}
use Rattle.std.proofs.Math.Option.{Option, none, some}
use Rattle.lr1_base.specs.repr.Sizes.{example_room}
use Rattle.lr1_base.specs.repr.Meaning.{Symbol, Production, Table, All}
use Rattle.lr1_base.specs.repr.Symbols.{meant}
use Rattle.lr1_base.specs.declared.repr.Symbol.{Symbol as SymbolOf}
use Rattle.lr1_base.specs.words.Lent.{in_front}
use Rattle.enumerator.specs.example.Example.{example_words}
use Rattle.conflict_sides.specs.declared.conflict.Class.{Class}
use Rattle.conflict_sides.specs.declared.conflict.Conflict.{Conflict}
use Rattle.conflict_sides.specs.conflict.Sorted.{Pair, first_fit}
use Rattle.conflict_sides.specs.conflict.Judge.{Example, Judged, is_same_reading}
use Rattle.conflict_sides.specs.outline.Kept.{nth}
use Rattle.conflict_sides.specs.examples.Gathers.{SideKept, is_shift, action_made, reduce_made}
use Rattle.conflicts.specs.declared.judgement.Judged.{Judged as JudgedValue}

-- an example that a buffer has room for stands at the front of one
pub record InBuffer (ps : List Production) (x : Example) (b : List ℕ) : Type 0 where
  pub few : length (example_words ps x) ≤ example_room
  pub before : List ℕ
  pub words : b ≡ in_front (example_words ps x) before

-- both sides of a conflict as they are kept
pub record Sides (T : Table) (c : Conflict) (xs ys : List Example) (actions prints reduces others : List ℕ) : Type 0 where
  pub action : SideKept T (is_shift c) (action_made T c) xs actions prints
  pub reduce : SideKept T false (reduce_made T c.state.0 c.production.0 c.token) ys reduces others

-- an order of a side's examples, not empty
pub record Ordered (xs : List Example) (order : List ℕ) : Type 0 where
  pub inside : All (λ k. k < length xs) order
  pub any : 0 < length order

-- a side's examples in an order
unfoldable pub picked : List Example → List ℕ → List Example
picked xs order = map (nth xs) order

unfoldable pub pair_in : List Example → List Example → ℕ → ℕ → Pair Example
pair_in xs ys i j = record { action = nth xs i; reduce = nth ys j }

-- the first of each order
unfoldable pub heads_in : List Example → List Example → List ℕ → List ℕ → Pair Example
heads_in xs ys rows columns = pair_in xs ys (get_or rows 0 0) (get_or columns 0 0)

unfoldable pub both : Class → ℕ → ℕ → JudgedValue
both k i j = record { class = k; action = Some i; reduce = Some j }

unfoldable pub shown_in : List Example → OptionOf ℕ → Option Example
shown_in xs (Some k) = some (nth xs k)
shown_in xs None = none

unfoldable pub judged_in : List Example → List Example → JudgedValue → Judged
judged_in xs ys v = record { class = v.class; action = shown_in xs v.action; reduce = shown_in ys v.reduce }

unfoldable pub ShownFits : ℕ → OptionOf ℕ → Type 0
ShownFits n (Some k) = k < n
ShownFits n None = Unit {0}

-- it says what the examples are judged, and shows examples of theirs
pub record Judges (xs ys : List Example) (v : JudgedValue) (j : Judged) : Type 0 where
  pub same : judged_in xs ys v ≡ j
  pub action : ShownFits (length xs) v.action
  pub reduce : ShownFits (length ys) v.reduce

-- the pair that was found, by its numbers
unfoldable pub found_in : List Example → List Example → OptionOf (ℕ × ℕ) → Option (Pair Example)
found_in xs ys (Some found) = some (pair_in xs ys found.0 found.1)
found_in xs ys None = none

unfoldable pub FoundFits : ℕ → ℕ → OptionOf (ℕ × ℕ) → Type 0
FoundFits m n (Some found) = (found.0 < m) × (found.1 < n)
FoundFits m n None = Unit {0}

-- the first pair that is read alike, by its numbers, or none
pub record ReadAlike (ps : List Production) (xs ys : List Example) (rows columns : List ℕ) (found : OptionOf (ℕ × ℕ)) : Type 0 where
  pub same : found_in xs ys found ≡ first_fit (is_same_reading ps) (picked xs rows) (picked ys columns)
  pub fits : FoundFits (length xs) (length ys) found

unfoldable pub question_in : OptionOf SymbolOf → Option Symbol
question_in (Some found) = some (meant found)
question_in None = none

-- the one symbol of the second list where the first is empty
unfoldable pub optional_one : List Symbol → List Symbol → Option Symbol
optional_one [] [] = none
optional_one [] (x ∷ []) = some x
optional_one [] (x ∷ y ∷ ys) = none
optional_one (x ∷ xs) ys = none
