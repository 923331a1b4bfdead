-- One listing from its first trial to the end or to a refusal, trial by trial: what the loop over the search makes. `listing_is` of proofs/examples/Traces: it is `listing_side` of conflict_sides/specs/conflict/Sides past refusal 12.
use Rattle.std.specs.Prelude.{ℕ, zero, suc, Bool, true, false, List, [], ◌∷◌, ◌++◌, nat_lt}
use Rattle.std.proofs.Math.Option.{Option}
use Rattle.lr1_base.specs.repr.Sizes.{trial_limit, example_limit}
use Rattle.lr1_base.specs.repr.Meaning.{Production, Item}
use Rattle.trace_graph.specs.Graph.{TraceEdge, at_item}
use Rattle.enumerator.specs.example.Example.{Label}
use Rattle.enumerator.specs.trials.Trials.{Path, ends_of, trials}
use Rattle.enumerator.specs.trials.Lister.{labels_of}
use Rattle.enumerator.specs.graph_view.View.{View, Labelled}
use Rattle.conflict_sides.specs.conflict.Sides.{Side, gathered, stopped}
use Rattle.enumerator.specs.filter.Filter.{hands_by}

-- an example before those of a side, or several
unfoldable pub more : List Label → Side → Side
more x (gathered xs m) = gathered (x ∷ xs) m
more x (stopped n) = stopped n

unfoldable pub onto : List (List Label) → Side → Side
onto xs (gathered ys m) = gathered (xs ++ ys) m
onto xs (stopped n) = stopped n

-- an example, k being on the side: 193 is one too many
unfoldable pub next_example : ℕ → List Label → Side → Side
next_example k x rest = elim (nat_lt k example_limit) [ true ↦ more x rest | false ↦ stopped 14 ]

-- past c trials made, with l more allowed, k examples being on the side: 14 at example 193, 13 at trial 100,001
unfoldable pub walk_side : (Path → Bool) → (Path → List Label) → ℕ → ℕ → ℕ → List Path → Side
walk_side t say l c k [] = gathered [] c
walk_side t say zero c k (p ∷ ps) = stopped 13
walk_side t say (suc l) c k (p ∷ ps) = elim (t p) [
  | false ↦ walk_side t say l (suc c) k ps
  | true ↦ next_example k (say p) (walk_side t say l (suc c) (suc k) ps)
]

-- the listing of a graph's edges from an item: e the end of input, sets the FIRST sets
unfoldable pub listed_by : ℕ → List ℕ → List Production → List TraceEdge → Option ℕ → Item → ℕ → Side
listed_by e sets ps es ahead i k = walk_side (hands_by e sets ps es ahead) (labels_of ps es) trial_limit 0 k (trials (ends_of es) (at_item i))

-- the labels of a graph's edges, and its view from an item
pub record Listable (ps : List Production) (es : List TraceEdge) (owners codes sources older latest : List ℕ) (start : Item) : Type 0 where
  pub labelled : Labelled ps es owners codes
  pub view : View es start sources older latest
