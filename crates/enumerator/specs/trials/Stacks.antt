-- What the code of the machine (specs/trials/Machine) is given and leaves: a graph in range, and words that hold a stack, a path with its last edge first (specs/trials/Words).
use Rattle.std.specs.Prelude.{◌≡◌, ℕ, ◌<◌, ◌≤◌, Bool, true, List, [], ◌∷◌, ◌++◌, reverse, length, take, drop, slice_index, slice_index_or}
use Rattle.lr1_base.specs.repr.Sizes.{nonterminal_limit, edge_limit, graph_room, reduction_limit}
use Rattle.lr1_base.specs.repr.Meaning.{Production}
use Rattle.trace_graph.specs.Fits.{item_is_fit, edge_is_fit}
use Rattle.enumerator.specs.trials.Words.{words_of}

-- a graph's words in range, of a table with productions ps: what its check gives
pub record Ranged (ps : List Production) (g : List ℕ) : Type 0 where
  pub nonterminals : ℕ
  pub few_nonterminals : nonterminals ≤ nonterminal_limit
  pub long : graph_room ≤ length g
  pub few_edges : slice_index_or g 0 0 ≤ edge_limit
  pub fits : (k : ℕ) → k < slice_index g 0 → edge_is_fit nonterminals ps g k ≡ true

-- of some table
pub record Ground (g : List ℕ) : Type 0 where
  pub productions : List Production
  pub ranged : Ranged productions g

-- and an item of that table
pub record Started (g : List ℕ) (production index : ℕ) : Type 0 where
  pub ground : Ground g
  pub fits : item_is_fit ground.productions production index ≡ true

-- room for the edges that a count allows
abbrev pub Roomy : List ℕ → Type 0
Roomy g = (graph_room ≤ length g) × (slice_index g 0 ≤ edge_limit)

-- edges below k
unfoldable pub Within : ℕ → List ℕ → Type 0
Within k [] = Unit {0}
Within k (e ∷ st) = (e < k) × Within k st

-- words of a stack of edges below k, no longer than a trial (`short_trial`)
pub record Stacked (k : ℕ) (ws : List ℕ) : Type 0 where
  pub stack : List ℕ
  pub rest : List ℕ
  pub words : ws ≡ words_of (reverse stack) ++ rest
  pub short : length stack ≤ reduction_limit
  pub edges : Within k stack

-- the stack of the first d edges in the words
unfoldable pub stack_in : List ℕ → ℕ → List ℕ
stack_in ws d = reverse (take d (drop 1 ws))

-- the answer of a step, and the words that it leaves
pub data Stepped : Type 0 where
  stepped : Bool → List ℕ → Stepped
