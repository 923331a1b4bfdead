use mathlib.Core.Path.{◌≡◌}
use mathlib.Core.List.{List}
use lib.ListN.{length}
use Rattle.table.specs.Decoded.{meaning}
use Rattle.conflict_sides.specs.conflict.Sorted.{first_fit}
use Rattle.conflict_sides.specs.conflict.Judge.{Example, is_same_reading}
use Rattle.conflict_sides.specs.outline.Kept.{nth}
use Rattle.conflicts.specs.pairs.Pairs.{pairs_from, first_from}
use Rattle.conflicts.specs.judgement.Judging.{Sides, Ordered}
use Rattle.conflicts.proofs.judgement.Judging.try_classify_ambiguity.Given as goal

abbrev pub invariant-loop-i : goal.invariant-loop-i
invariant-loop-i l = (xs ys : List Example) → Sides (meaning l.self.case.given.table.words.now) l.self.case.conflict xs ys l.self.actions.side.kept.now l.self.actions.side.prints.now l.self.reduces.side.kept.now l.self.reduces.side.prints.now → Ordered xs l.self.actions.order.now → Ordered ys l.self.reduces.order.now
    → first_from (λ x y. is_same_reading (meaning l.self.case.given.table.words.now).productions (nth xs x) (nth ys y)) l.self.actions.order.now l.self.reduces.order.now l.begin.0 l.begin.1 ≡ first_fit (λ x y. is_same_reading (meaning l.self.case.given.table.words.now).productions (nth xs x) (nth ys y)) l.self.actions.order.now l.self.reduces.order.now

abbrev pub decreases-loop-i : goal.decreases-loop-i
decreases-loop-i l = length (pairs_from l.self.actions.order.now l.self.reduces.order.now l.begin.0 l.begin.1)
