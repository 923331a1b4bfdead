use mathlib.Core.Path.{sym, ◌∙◌}
use native.Mathlib.Omega.{arith}
use Rattle.conflicts.proofs.Seen.{whole_long, part_none, part_first, part_action, part_reduce}
use Rattle.conflicts.proofs.observed_part.Goals as goal
use Rattle.conflicts.proofs.observed_part.Goals.{then-not-whole_example-via-then-not-whole_example, then-not-whole_example-via-else-not-whole_example+then-not-whole_example-2}

pub returns-then-not-whole_example : goal.returns-then-not-whole_example
returns-then-not-whole_example c = elim c.then-not-whole_example.branch [
  | then-not-whole_example-via-then-not-whole_example w ↦ part_none _ _ (sym c.whole_example.ensures ∙ w.if-not-whole_example.true)
  | then-not-whole_example-via-else-not-whole_example+then-not-whole_example-2 w ↦ part_first _ _ (sym c.whole_example.ensures ∙ w.if-not-whole_example.false) (sym w.whole_example-else-not-whole_example.ensures ∙ w.if-not-whole_example-2.true)
]

pub word-a-requires : goal.word-a-requires
word-a-requires c = let k = whole_long _ (sym c.whole_example.ensures ∙ c.if-not-whole_example.false) in omega arith

pub word-b-requires : goal.word-b-requires
word-b-requires c = let k = whole_long _ (sym c.whole_example-else-not-whole_example.ensures ∙ c.if-not-whole_example-2.false) in omega arith

pub returns-then-a-b : goal.returns-then-a-b
returns-then-a-b c = part_action _ _ (sym c.whole_example.ensures ∙ c.if-not-whole_example.false) (sym c.whole_example-else-not-whole_example.ensures ∙ c.if-not-whole_example-2.false) _ _ c.word-a.ensures.0 c.word-b.ensures.0 (omega (arith, c.if-a-b.true))

pub returns-else-a-b : goal.returns-else-a-b
returns-else-a-b c = part_reduce _ _ (sym c.whole_example.ensures ∙ c.if-not-whole_example.false) (sym c.whole_example-else-not-whole_example.ensures ∙ c.if-not-whole_example-2.false) _ _ c.word-a.ensures.0 c.word-b.ensures.0 (omega (arith, c.if-a-b.false))
