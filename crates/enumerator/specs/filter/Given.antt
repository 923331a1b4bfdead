-- What the search and the reading of labels are given: a graph in range with its view, and words that hold a trial of it.
use Rattle.std.specs.Prelude.{◌≡◌, ℕ, ◌≤◌, List, [], ◌∷◌, ◌++◌, length}
use mathlib.Core.List.{Memᴰ}
use Rattle.lr1_base.specs.repr.Sizes.{reduction_limit}
use Rattle.lr1_base.specs.repr.Meaning.{Production, Item}
use Rattle.trace_graph.specs.Graph.{Node, at_item, TraceEdge}
use Rattle.enumerator.specs.trials.Trials.{Path, Ends, ends_of, trials}
use Rattle.enumerator.specs.trials.Stacks.{Within}
use Rattle.enumerator.specs.graph_view.View.{View, Labelled}
use Rattle.enumerator.specs.graph_view.Trial.{trial_words}

-- no edge, or a trial
unfoldable pub Begun : Ends → Node → Path → Type 0
Begun G start [] = Unit {0}
Begun G start (e ∷ p) = Memᴰ (e ∷ p) (trials G start)

-- the edges of a graph, their labels, the view from an item, and the words that the search goes on from
pub record Searching (ps : List Production) (es : List TraceEdge) (owners codes sources older latest ws : List ℕ) (start : Item) : Type 0 where
  pub labelled : Labelled ps es owners codes
  pub view : View es start sources older latest
  pub path : Path
  pub rest : List ℕ
  pub words : ws ≡ trial_words path ++ rest
  pub begun : Begun (ends_of es) (at_item start) path

-- labels of a graph's edges, and words of edges of it: one at least, and no more than a trial has
pub record Tried (ps : List Production) (es : List TraceEdge) (owners codes ws : List ℕ) : Type 0 where
  pub labelled : Labelled ps es owners codes
  pub path : Path
  pub rest : List ℕ
  pub words : ws ≡ trial_words path ++ rest
  pub some_edge : 1 ≤ length path
  pub few : length path ≤ reduction_limit
  pub edges : Within (length es) path
