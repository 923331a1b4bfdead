-- Making one example of a side again: the listing goes on to the one wanted, k others before it.
use Rattle.std.specs.Prelude.{◌≡◌, ℕ, ◌<◌, ◌≤◌, Bool, true, false, List, ◌++◌, length}
use Rattle.lr1_base.specs.repr.Sizes.{example_limit}
use Rattle.lr1_base.specs.repr.Meaning.{Production}
use Rattle.trace_graph.specs.Graph.{TraceEdge}
use Rattle.enumerator.specs.trials.Trials.{Path}
use Rattle.enumerator.specs.trials.Lister.{labels_of}
use Rattle.enumerator.specs.graph_view.Trial.{trial_words}
use Rattle.enumerator.specs.filter.Given.{Tried}
use Rattle.conflict_sides.specs.conflict.Judge.{Example}
use Rattle.conflict_sides.specs.conflict.Sides.{Side, gathered}
use Rattle.conflict_sides.specs.outline.Kept.{nth}

-- example k of a side
pub record Listed (side : Side) (k : ℕ) (x : Example) : Type 0 where
  pub examples : List Example
  pub trials : ℕ
  pub is : side ≡ gathered examples trials
  pub inside : k < length examples
  pub there : nth examples k ≡ x

-- the words hold the trial of an example
pub record Holds (ps : List Production) (es : List TraceEdge) (x : Example) (w : List ℕ) : Type 0 where
  pub path : Path
  pub rest : List ℕ
  pub words : w ≡ trial_words path ++ rest
  pub labels : labels_of ps es path ≡ x

-- whether the words hold example `wanted` of a listing, whatever number n of examples the listing begins after
unfoldable pub Finds : List Production → List TraceEdge → List ℕ → List ℕ → Bool → (ℕ → Side) → ℕ → List ℕ → Type 0
Finds ps es owners codes true listing wanted w = Tried ps es owners codes w × ((n : ℕ) (x : Example) → n ≤ example_limit → Listed (listing n) wanted x → Holds ps es x w)
Finds ps es owners codes false listing wanted w = (n : ℕ) (x : Example) → n ≤ example_limit → Listed (listing n) wanted x → ⊥
