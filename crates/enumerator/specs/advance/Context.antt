-- What the parts of a call are given of a table: its productions and numbers as read.
use Rattle.std.specs.Prelude.{ℕ, zero, suc, ◌^◌, ◌≡◌, Bool, true, false, List, [], ◌++◌, length, drop, replicate, ltb}
use Rattle.std.proofs.Math.Option.{Option, none, some}
use Rattle.lr1_base.specs.repr.Sizes.{scratch_words}
use Rattle.lr1_base.specs.repr.Meaning.{Production, Table}
use Rattle.first.specs.First.{sets_of_first}
use Rattle.trace_graph.specs.Graph.{Node, TraceEdge, is_same_node}
use Rattle.trace_graph.specs.Words.{edges_in}
use Rattle.trace_graph.specs.Fits.{item_is_fit}
use Rattle.enumerator.specs.trials.Words.{words_of}
use Rattle.enumerator.specs.trials.Stacks.{Ranged}
use Rattle.enumerator.specs.graph_view.View.{View, Labelled}

-- a table whose nonterminals, terminals and productions these are
pub record Read (T : Table) (n e : ℕ) (ps : List Production) : Type 0 where
  pub nonterminals : n ≡ length T.nonterminals
  pub terminals : e ≡ T.terminals
  pub productions : ps ≡ T.productions

-- a lookahead is of tokens alone: `ahead_fits` of specs/Advance over the number of terminals
unfoldable pub ahead_by : ℕ → Option ℕ → Bool
ahead_by terminals none = true
ahead_by terminals (some s) = ltb s (2 ^ suc terminals)

-- the FIRST sets where a lookahead is set; without one they are not asked
unfoldable pub sets_for : Option ℕ → ℕ → List Production → List ℕ
sets_for none e ps = replicate 32 0
sets_for (some s) e ps = sets_of_first e ps

-- the words that a search starts from: at count 0 those of no edge, whatever they hold
unfoldable pub begun : ℕ → List ℕ → List ℕ
begun zero ws = words_of [] ++ drop scratch_words ws
begun (suc c) ws = ws

-- a node is an end of an edge (`is_node_of` of trace_graph's specs/Graph)
unfoldable pub ends_at : Node → TraceEdge → Bool
ends_at v e = elim (is_same_node v e.source) [ true ↦ true | false ↦ is_same_node v e.target ]

-- a graph in range, an item of the table, and the view of the graph from the item with the labels of its edges
pub record Listable (ps : List Production) (g : List ℕ) (production index : ℕ) (owners codes sources older latest : List ℕ) : Type 0 where
  pub ranged : Ranged ps g
  pub fits : item_is_fit ps production index ≡ true
  pub view : View (edges_in g) (record { production = production; index = index }) sources older latest
  pub labelled : Labelled ps (edges_in g) owners codes
