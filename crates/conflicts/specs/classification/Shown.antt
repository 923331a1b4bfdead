-- A class with the words of the two example buffers.
use Rattle.std.specs.Prelude.{ℕ, List}
use Rattle.lr1_base.specs.repr.Meaning.{Production}
use Rattle.conflict_sides.specs.declared.conflict.Class.{Class}
use Rattle.conflict_sides.specs.conflict.Judge.{Judged}
use Rattle.conflict_sides.specs.conflict.Outcome.{shown}

pub data Judgement : Type 0 where
  judged_words : Class → List ℕ → List ℕ → Judgement

unfoldable pub shown_of : List Production → List ℕ → List ℕ → Judged → Judgement
shown_of ps action reduce j = judged_words j.class (shown ps j.action action) (shown ps j.reduce reduce)
