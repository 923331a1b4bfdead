-- What the exported functions of classifying answer in numbers, as in Exported.
use Rattle.std.specs.Prelude.{ℕ, ◌+◌, ◌*◌, true, false, List, [], ◌∷◌, ◌++◌, length, drop, nat_le}
use Rattle.lr1_base.specs.repr.Sizes.{entry_room, entries_room}
use Rattle.lr1_base.specs.repr.Lists.{joined}
use Rattle.conflict_sides.specs.declared.conflict.Conflict.{Conflict}
use Rattle.conflict_sides.specs.conflict.Numbers.{classed, refused}
use Rattle.conflict_sides.specs.conflict.Outcome.{Outcome, outcome}
use Rattle.conflict_sides.specs.conflict.Choose.{chosen, refused as not_chosen, Outcome as ChoiceOutcome, outcome as choosing, choose_of}
use Rattle.conflicts.specs.declared.Part.{Part}
use Rattle.conflicts.specs.declared.Part.TheVariants.{Action, Reduce}
use Rattle.conflicts.specs.class_words.Entries.{entry_words}

-- a class's own values in one word, 16 bits each, the first lowest
unfoldable pub packed : List ℕ → ℕ
packed [] = 0
packed (v ∷ vs) = v + 65536 * packed vs

-- refusal, place, class number, own values, trials of the two sides, scratch words, words of the two example buffers
pub data ClassNumbers : Type 0 where
  class_numbers : ℕ → ℕ → ℕ → ℕ → ℕ → ℕ → List ℕ → List ℕ → List ℕ → ClassNumbers

-- class, values and trials as they were where the call is refused
unfoldable pub classified_numbers : ℕ → ℕ → ℕ → ℕ → Outcome → ClassNumbers
classified_numbers class values m n (outcome (classed k vs a r) scratch action reduce) = class_numbers 0 0 k (packed vs) a r scratch action reduce
classified_numbers class values m n (outcome (refused x p) scratch action reduce) = class_numbers x p class values m n scratch action reduce

-- refusal, place, number of entries, all the words lent for them, scratch words
pub data ChoiceNumbers : Type 0 where
  choice_numbers : ℕ → ℕ → ℕ → List ℕ → List ℕ → ChoiceNumbers

-- the entries' words at the front, the other words as they were; all as they were where the call is refused
unfoldable pub chosen_numbers : ℕ → List ℕ → ChoiceOutcome → ChoiceNumbers
chosen_numbers count entries (choosing (chosen es) scratch) = choice_numbers 0 0 (length es) (joined entry_words es ++ drop (entry_room * length es) entries) scratch
chosen_numbers count entries (choosing (not_chosen n r) scratch) = choice_numbers n r count entries scratch

-- too few words for the entries: refused as with no scratch, 1 to 10 or else 11, and nothing changed
unfoldable pub short_numbers : ℕ → List ℕ → List ℕ → ChoiceOutcome → ChoiceNumbers
short_numbers count entries scratch (choosing (chosen es) s) = choice_numbers 11 0 count entries scratch
short_numbers count entries scratch (choosing (not_chosen n r) s) = choice_numbers n r count entries scratch

unfoldable pub choose_numbers : ℕ → List ℕ → List ℕ → Conflict → ℕ → List ℕ → ChoiceNumbers
choose_numbers count entries t c tokens scratch = elim (nat_le entries_room (length entries)) [
  | true ↦ chosen_numbers count entries (choose_of t c tokens scratch)
  | false ↦ short_numbers count entries scratch (choose_of t c tokens [])
]

-- the buffer, the action's (0) or the reduce's (1), and how many words of it from word 3 on
pub data PartNumbers : Type 0 where
  part_numbers : ℕ → ℕ → PartNumbers

unfoldable pub observed_numbers : Part → PartNumbers
observed_numbers (Action n) = part_numbers 0 n
observed_numbers (Reduce n) = part_numbers 1 n
