-- The input's conflicts, and the lines that are printed of an outcome.
use Rattle.std.specs.Prelude.{ℕ, ◌+◌, ◌*◌, ◌≤◌, ◌≡◌, List, length, get_or, take}
use Rattle.conflict_sides.specs.conflict.Outcome.{Outcome, outcome}
use Rattle.conflict_sides.specs.declared.conflict.Conflict.{Conflict}
use Rattle.output_text.specs.conflict_lines.Lines.{lines_of, ReadingShown}

-- conflict k of some words, five each
unfoldable pub nth_conflict : List ℕ → ℕ → Conflict
nth_conflict words k = record {
  state = record { 0 = get_or words (k * 5) 0 };
  production = record { 0 = get_or words (k * 5 + 1) 0 };
  action = get_or words (k * 5 + 2) 0;
  operand = get_or words (k * 5 + 3) 0;
  token = get_or words (k * 5 + 4) 0;
}

-- the lines of conflict number k, of what `classify` answers and leaves
unfoldable pub printed : ℕ → Outcome → List ℕ
printed k (outcome reading scratch action reduce) = lines_of k reading action reduce

-- the examples that are shown with an outcome's class are whole
unfoldable pub OutcomeShown : Outcome → Type 0
OutcomeShown (outcome reading scratch action reduce) = ReadingShown reading action reduce

-- the first n of some bytes are the lines of conflict number k, those of whole examples
pub record Prints (k : ℕ) (o : Outcome) (bytes : List ℕ) (n : ℕ) : Type 0 where
  pub text : take n bytes ≡ printed k o
  pub whole : OutcomeShown o
  pub within : n ≤ length bytes
