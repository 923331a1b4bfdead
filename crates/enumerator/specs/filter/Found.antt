-- What a search answers, and the words that it leaves: those of the trial handed out, or of none.
use Rattle.std.specs.Prelude.{ℕ, List, [], ◌∷◌, ◌++◌}
use Rattle.enumerator.specs.trials.Trials.{Path}
use Rattle.enumerator.specs.trials.Lister.{Found, hit, out, over}
use Rattle.enumerator.specs.trials.Words.{after}
use Rattle.enumerator.specs.graph_view.Trial.{trial_words}
use Rattle.enumerator.specs.declared.filter.Searched.{Searched}
use Rattle.enumerator.specs.declared.filter.Searched.TheVariants.{Hit, Out, Over}

pub data SearchOutcome : Type 0 where
  searched : Searched → List ℕ → SearchOutcome

-- rest: the words past a trial's
unfoldable pub searched_of : List ℕ → Found → SearchOutcome
searched_of rest (hit n p) = searched (Hit n) (trial_words p ++ rest)
searched_of rest (out n) = searched (Out n) (trial_words [] ++ rest)
searched_of rest over = searched Over (trial_words [] ++ rest)

-- the trials after p, or all where p has no edge
unfoldable pub later_than : Path → List Path → List Path
later_than [] ts = ts
later_than (e ∷ p) ts = after (e ∷ p) ts
