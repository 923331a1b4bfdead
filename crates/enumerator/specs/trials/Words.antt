-- The words of a trial: all 32,000 words of the scratch after an example (docs/RULES.md, "Listing": they follow from the trial that gave it).
use Rattle.std.specs.Prelude.{ℕ, ◌-◌, Bool, true, false, ◌&&◌, List, [], ◌∷◌, ◌++◌, length, take, drop, replicate, slice_index}
use Rattle.lr1_base.specs.repr.Sizes.{scratch_words}
use Rattle.lr1_base.specs.words.Same.{same_words}
use Rattle.lr1_base.specs.repr.Lists.{some?}
use Rattle.trace_graph.specs.Graph.{Node}
use Rattle.enumerator.specs.trials.Trials.{Path, Ends, trials, is_example_in}

-- room for a trial's edges behind their number
abbrev pub path_room : ℕ
path_room = scratch_words - 1

-- the number of its edges, the edges from the start item on, zeros
unfoldable pub words_of : Path → List ℕ
words_of p = length p ∷ (p ++ replicate (path_room - length p) 0)

unfoldable pub path_in : List ℕ → Path
path_in ws = take (slice_index ws 0) (drop 1 ws)

-- the words hold a trial that is an example
unfoldable pub has_trial : Ends → Node → List ℕ → Bool
has_trial G start ws =
    same_words (take scratch_words ws) (words_of (path_in ws))
    && (is_example_in G (path_in ws) && some? (same_words (path_in ws)) (trials G start))

-- the trials after p
unfoldable pub after : Path → List Path → List Path
after p [] = []
after p (q ∷ qs) = elim (same_words p q) [ true ↦ qs | false ↦ after p qs ]
