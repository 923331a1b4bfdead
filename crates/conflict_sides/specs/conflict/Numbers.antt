-- The number of a class (docs/RULES.md, "Classes"), and the class's own values in the order that it prints them.
use Rattle.std.specs.Prelude.{ℕ, List, [], ◌∷◌, Result, Ok, Err}
use Rattle.lr1_base.specs.declared.repr.refusals.Refusal.{Refusal}
use Rattle.lr1_base.specs.repr.Reply.{number_of, place_of}
use Rattle.conflict_sides.specs.declared.conflict.Class.{Class}
use Rattle.conflict_sides.specs.declared.conflict.Class.TheVariants.{Naive, Ambiguity, Precedence, SuggestInline, SuggestQuestion, AmbiguousReduction, InsufficientLookahead}
use Rattle.conflict_sides.specs.declared.conflict.Classification.{Classification}

unfoldable pub number_of_class : Class → ℕ
number_of_class Naive = 0
number_of_class Ambiguity = 1
number_of_class (Precedence n) = 2
number_of_class (SuggestInline n) = 3
number_of_class (SuggestQuestion n k x) = 4
number_of_class (AmbiguousReduction a b c d) = 5
number_of_class InsufficientLookahead = 6

-- nonterminal (2, 3), nonterminal and kind/number (4), four span words, the conflict's first (5)
unfoldable pub values_of_class : Class → List ℕ
values_of_class Naive = []
values_of_class Ambiguity = []
values_of_class (Precedence n) = n.0 ∷ []
values_of_class (SuggestInline n) = n.0 ∷ []
values_of_class (SuggestQuestion n k x) = n.0 ∷ k ∷ x ∷ []
values_of_class (AmbiguousReduction a b c d) = a ∷ b ∷ c ∷ d ∷ []
values_of_class InsufficientLookahead = []

-- what classifying says: class, its own values, trials of the action side and of the reduce side; or a refusal and its place
pub data Reading : Type 0 where
  classed : ℕ → List ℕ → ℕ → ℕ → Reading
  refused : ℕ → ℕ → Reading

unfoldable pub reading_of : Result Classification Refusal → Reading
reading_of (Ok k) = classed (number_of_class k.class) (values_of_class k.class) k.action_trials k.reduce_trials
reading_of (Err e) = refused (number_of e) (place_of e)
