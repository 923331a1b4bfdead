-- The trials of a listing (docs/RULES.md, "Listing"; `PathEnumerator`): the paths, their order, their enumeration. An edge is named by its number, its place in the order added.
use Rattle.std.specs.Prelude.{◌≡◌, ℕ, zero, suc, ◌+◌, ◌<◌, Bool, true, false, ◌↔◌, List, [], ◌∷◌, ◌++◌, map, length, ◌≢◌, slice_index_or}
use mathlib.Core.List.{Memᴰ}
use Rattle.lr1_base.specs.repr.Sizes.{nonterminal_limit}
use Rattle.lr1_base.specs.repr.Lists.{mem}
use Rattle.trace_graph.specs.Graph.{Node, at_nonterminal, at_item, is_same_node, TraceEdge, no_edge}

-- what a listing asks of a graph: how many edges, and each edge's ends by its number
pub record Ends : Type 0 where
  pub count : ℕ
  pub source : ℕ → Node
  pub target : ℕ → Node

abbrev pub ends_of : List TraceEdge → Ends
ends_of es = record { count = length es; source = λ k. (slice_index_or es k no_edge).source; target = λ k. (slice_index_or es k no_edge).target }

-- a path is the numbers of its edges, the one that enters the start item first
abbrev pub Path : Type 0
Path = List ℕ

-- the order of edge sequences: a beginning before its extension; else, at the first difference, the edge added later goes first
pub data Before : Path → Path → Type 0 where
  shorter : {f : ℕ} {q : Path} → Before [] (f ∷ q)
  later : {e f : ℕ} {p q : Path} → f < e → Before (e ∷ p) (f ∷ q)
  alike : {e f : ℕ} {p q : Path} → e ≡ f → Before p q → Before (e ∷ p) (f ∷ q)

module _ (G : Ends) where
  -- p goes backward from v by edges to nonterminals that differ from each other and from those of used, and then by one edge more
  abbrev pub TrialFrom : List ℕ → Node → Path → Type 0
  TrialFrom used v [] = ⊥
  TrialFrom used v (e ∷ []) = (e < G.count) × (G.target e ≡ v)
  TrialFrom used v (e ∷ f ∷ p) =
      (n : ℕ) × (e < G.count) × (G.target e ≡ v) × (G.source e ≡ at_nonterminal n) × (mem n used ≡ false) × TrialFrom (n ∷ used) (at_nonterminal n) (f ∷ p)

  -- a trial: a walk, the empty one included, with one edge into its end
  abbrev pub IsTrial : Node → Path → Type 0
  IsTrial start p = TrialFrom [] start p

-- the ways on at a node: none at an item, none at a nonterminal of the walk
abbrev pub within : List ℕ → (List ℕ → Node → List Path) → Node → List Path
within used go (at_item i) = []
within used go (at_nonterminal n) = elim (mem n used) [ true ↦ [] | false ↦ go (n ∷ used) (at_nonterminal n) ]

-- one more than the nonterminals that a walk may enter (`complete` of proofs/trials/Exact: it never cuts)
abbrev pub walk_fuel : ℕ
walk_fuel = nonterminal_limit + 1

module _ (G : Ends) where
  -- the trials through the edges into v with numbers below k, the latest first; ch e: the ways on from e
  abbrev pub level : (ℕ → List Path) → Node → ℕ → List Path
  level ch v zero = []
  level ch v (suc k) =
      elim (is_same_node (G.target k) v) [ true ↦ (k ∷ []) ∷ (map (λ p. k ∷ p) (ch k) ++ level ch v k) | false ↦ level ch v k ]

  -- fuel: one more than the nonterminals that the walk may still enter
  abbrev pub trials_from : ℕ → List ℕ → Node → List Path
  trials_from zero used v = []
  trials_from (suc f) used v = level (λ e. within used (λ u w. trials_from f u w) (G.source e)) v G.count

  -- all trials, in the order of trials
  unfoldable pub trials : Node → List Path
  trials start = trials_from walk_fuel [] start

-- a trial whose edge comes from an item is an example
abbrev pub from_item : Node → Bool
from_item (at_item i) = true
from_item (at_nonterminal n) = false

abbrev pub is_example_in : Ends → Path → Bool
is_example_in G [] = false
is_example_in G (e ∷ []) = from_item (G.source e)
is_example_in G (e ∷ f ∷ p) = is_example_in G (f ∷ p)

-- each before all that follow it
abbrev pub AllPaths : (Path → Type 0) → List Path → Type 0
AllPaths P [] = Unit {0}
AllPaths P (x ∷ xs) = P x × AllPaths P xs

abbrev pub Increasing : List Path → Type 0
Increasing [] = Unit {0}
Increasing (p ∷ ps) = AllPaths (Before p) ps × Increasing ps

abbrev pub Distinct : List Path → Type 0
Distinct [] = Unit {0}
Distinct (p ∷ ps) = AllPaths (λ q. p ≢ q) ps × Distinct ps

-- what a graph that fits gives (`small_of` of proofs/trials/Edges): every nonterminal that an edge comes from is below 32
abbrev pub Small : Ends → Type 0
Small G = (e n : ℕ) → e < G.count → G.source e ≡ at_nonterminal n → n < 32

-- a list of all trials and of nothing else, in the order of trials: there is one only (`trials-only` of proofs/trials/Unique)
pub record Enumerates (G : Ends) (start : Node) (ps : List Path) : Type 0 where
  pub order : Increasing ps
  pub members : (p : Path) → Memᴰ p ps ↔ IsTrial G start p
