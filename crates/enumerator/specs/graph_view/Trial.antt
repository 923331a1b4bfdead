-- The 34 words of a trial: the number of its edges, the edges from the start item on, zeros (no trial has more than 33, `short_trial` of enumerator). `words_trial` of proofs/graph_view/Trial: with zeros behind them
-- they are the 32,000 words that a public listing leaves (specs/trials/Words).
use Rattle.std.specs.Prelude.{ℕ, ◌+◌, ◌-◌, ◌≤◌, ◌≡◌, true, false, List, [], ◌∷◌, ◌++◌, reverse, length, replicate}
use Rattle.std.proofs.Math.Option.{Option, none, some}
use Rattle.lr1_base.specs.repr.Sizes.{edge_limit, reduction_limit}
use Rattle.enumerator.specs.trials.Trials.{Path}
use Rattle.enumerator.specs.trials.Stacks.{Within, Stepped, stepped}

abbrev pub trial_room : ℕ
trial_room = 1 + reduction_limit

unfoldable pub trial_words : Path → List ℕ
trial_words p = length p ∷ (p ++ replicate (reduction_limit - length p) 0)

-- words of a stack, a path with its last edge first
pub record Held (ws : List ℕ) : Type 0 where
  pub stack : List ℕ
  pub rest : List ℕ
  pub words : ws ≡ trial_words (reverse stack) ++ rest
  pub short : length stack ≤ reduction_limit
  pub edges : Within edge_limit stack

-- a step from the stack that the words hold leaves no more edges than there is room for
pub record Fitting (step : List ℕ → Option (List ℕ)) (ws : List ℕ) : Type 0 where
  pub room : (st rest : List ℕ) → ws ≡ trial_words (reverse st) ++ rest → (s : List ℕ) → step st ≡ some s → length s ≤ reduction_limit

-- the answer of a step, and the words that it leaves: those of the next stack, or of none
unfoldable pub step_words : Option (List ℕ) → List ℕ → Stepped
step_words none rest = stepped false (trial_words [] ++ rest)
step_words (some st) rest = stepped true (trial_words (reverse st) ++ rest)
