-- The words of an answer.
use Rattle.std.specs.Prelude.{ℕ, ◌*◌, ◌-◌, List, ◌++◌, length, replicate}
use Rattle.lr1_base.specs.repr.Sizes.{entry_room, entries_room}
use Rattle.lr1_base.specs.repr.Lists.{joined}
use Rattle.conflict_sides.specs.conflict.Choose.{Entry}
use Rattle.conflicts.specs.class_words.Entries.{entry_words}

-- the chosen entries', then zeros
unfoldable pub choice_words : List Entry → List ℕ
choice_words es = joined entry_words es ++ replicate (entries_room - entry_room * length es) 0
