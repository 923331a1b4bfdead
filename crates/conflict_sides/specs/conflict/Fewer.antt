-- Classifying and choosing over W words of scratch and over W' words of another: what both calls have in common, and what each leaves of its own. Assumes nothing: these are
-- definitions.
use Rattle.std.specs.Prelude.{◌≡◌, ℕ, Bool, true, false, List, nat_le}
use Rattle.lr1_base.specs.words.Lent.{zeroed}
use Rattle.conflict_sides.specs.declared.conflict.Conflict.{Conflict}
use Rattle.conflict_sides.specs.conflict.Numbers.{Reading, classed, refused}
use Rattle.conflict_sides.specs.conflict.Outcome.{Outcome, outcome, classify_with, classify_of}
use Rattle.conflict_sides.specs.conflict.Choose.{Choice, chosen, refused as not_chosen, Outcome as ChoiceOutcome, outcome as choosing, choose_with, choose_of}

-- refusals 1 to 11 leave the scratch as it was
unfoldable pub keeps : Reading → Bool
keeps (classed k vs m n) = false
keeps (refused n r) = nat_le n 11

unfoldable pub choice_keeps : Choice → Bool
choice_keeps (chosen es) = false
choice_keeps (not_chosen n r) = nat_le n 11

-- else its first W words are zero, and those from W on as they were
unfoldable pub left : ℕ → List ℕ → Bool → List ℕ
left W scratch true = scratch
left W scratch false = zeroed W scratch

-- one reading and the same two buffers
pub record SameClass (W W' : ℕ) (s s' : List ℕ) (o o' : Outcome) : Type 0 where
  pub reading : Reading
  pub action : List ℕ
  pub reduce : List ℕ
  pub first : o ≡ outcome reading (left W s (keeps reading)) action reduce
  pub second : o' ≡ outcome reading (left W' s' (keeps reading)) action reduce

-- one choice
pub record SameChoice (W W' : ℕ) (s s' : List ℕ) (o o' : ChoiceOutcome) : Type 0 where
  pub choice : Choice
  pub first : o ≡ choosing choice (left W s (choice_keeps choice))
  pub second : o' ≡ choosing choice (left W' s' (choice_keeps choice))

-- so for a table's every conflict
pub record SameWords (t : List ℕ) (c : Conflict) (W W' : ℕ) (s s' : List ℕ) : Type 0 where
  pub classes : (action reduce : List ℕ) → SameClass W W' s s' (classify_with W t c s action reduce) (classify_with W' t c s' action reduce)
  pub choices : (set : ℕ) → SameChoice W W' s s' (choose_with W t c set s) (choose_with W' t c set s')

-- docs/RULES.md, "Lent words": what is proved of `classify` and `choose`, over 8,000 words, beside 32,000
pub record EightThousand (t : List ℕ) (c : Conflict) (s s' : List ℕ) : Type 0 where
  pub classes : (action reduce : List ℕ) → SameClass 8000 32000 s s' (classify_of t c s action reduce) (classify_with 32000 t c s' action reduce)
  pub choices : (set : ℕ) → SameChoice 8000 32000 s s' (choose_of t c set s) (choose_with 32000 t c set s')
