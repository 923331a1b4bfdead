-- Where the lines of a text begin.
use Rattle.std.specs.Prelude.{◌≡◌, ℕ, ◌<◌, ◌≤◌, ◌-◌, ◌==◌, List, length, take, count_by, slice_index}

-- how many newlines a text has
abbrev pub newlines : List ℕ → ℕ
newlines text = count_by (λ b. b == 10) text

-- the line behind the first k newlines begins at s
pub record BeginsLine (text : List ℕ) (k s : ℕ) : Type 0 where
  pub within : s ≤ length text
  pub counted : newlines (take s text) ≡ k
  pub behind : 0 < s → slice_index text (s - 1) ≡ 10
