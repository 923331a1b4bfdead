-- What choosing answers by value, and the tokens of the set one after another: better classes and naive ones apart.
use Rattle.std.specs.Prelude.{Result, Ok, Err, ℕ, zero, suc, ◌+◌, ◌≤◌, ◌≡◌, Bool, not, List, ◌++◌}
use Rattle.lr1_base.specs.declared.repr.refusals.Refusal.{Refusal}
use Rattle.lr1_base.specs.repr.Reply.{number_of, place_of}
use Rattle.lr1_base.specs.repr.Lists.{keep}
use Rattle.conflict_sides.specs.conflict.Choose.{Entry, Choice, chosen, refused, Entries, entries, halts, is_better}
use Rattle.conflicts.specs.class_words.Entries.{entries_in}
use Rattle.conflicts.specs.declared.choice.chosen.Chosen.{Chosen}
use Rattle.conflicts.specs.declared.class_words.EntryList.{EntryList}

unfoldable pub choice_in : Result Chosen Refusal → Choice
choice_in (Ok c) = chosen (entries_in c.entries c.count)
choice_in (Err e) = refused (number_of e) (place_of e)

-- the better classes and the naive ones so far, or the refusal
pub data Sorted : Type 0 where
  sorted : List Entry → List Entry → Sorted
  stopped : ℕ → Sorted

unfoldable pub sorted_in : Result (Unit {0}) Refusal → EntryList → EntryList → Sorted
sorted_in (Ok u) better naive = sorted (entries_in better.words better.count) (entries_in naive.words naive.count)
sorted_in (Err n) better naive = stopped (number_of n)

-- how many are written; a refusal, 12 to 14, has no place
unfoldable pub CountsWithin : ℕ → Result (Unit {0}) Refusal → EntryList → EntryList → Type 0
CountsWithin k (Ok u) better naive = better.count + naive.count ≤ k
CountsWithin k (Err n) better naive = place_of n ≡ 0

unfoldable pub is_naive : Entry → Bool
is_naive e = not (is_better e)

unfoldable pub added_to : List Entry → List Entry → Entries → Sorted
added_to bs as' (entries es) = sorted (bs ++ keep is_better es) (as' ++ keep is_naive es)
added_to bs as' (halts n) = stopped n

-- how many naive ones are chosen: all of a shift, of a reduce/reduce only the first
unfoldable pub count_of_naive : ℕ → ℕ → ℕ
count_of_naive zero n = n
count_of_naive (suc k) zero = 0
count_of_naive (suc k) (suc n) = 1
