-- Which buffer the observed symbols are a part of (docs/RULES.md, "Observed symbols").
use Rattle.std.specs.Prelude.{ℕ, ◌*◌, true, false, ◌&&◌, List, get_or, take, drop, leb}
use Rattle.conflict_sides.specs.conflict.Observed.{is_whole_example}
use Rattle.conflicts.specs.declared.Part.{Part}
use Rattle.conflicts.specs.declared.Part.TheVariants.{Action, Reduce}

-- the action's if its cursor is at least the other's, with two words for each symbol before the cursor; where either is not whole, an empty part of the first
unfoldable pub part_observed : List ℕ → List ℕ → Part
part_observed action reduce = elim (is_whole_example action && is_whole_example reduce) [
  | false ↦ Action 0
  | true ↦ elim (leb (get_or reduce 1 0) (get_or action 1 0)) [ true ↦ Action (2 * get_or action 1 0) | false ↦ Reduce (2 * get_or reduce 1 0) ]
]

-- its words: symbols stand from word 3 on
unfoldable pub part_words : Part → List ℕ → List ℕ → List ℕ
part_words (Action n) action reduce = take n (drop 3 action)
part_words (Reduce n) action reduce = take n (drop 3 reduce)
