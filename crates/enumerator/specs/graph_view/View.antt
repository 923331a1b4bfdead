-- A view of a trace graph: what a listing from one item asks of it, in five small lists. By edge: the nonterminal that it comes from, the next older edge into the same node, and its
-- label in two (`Labelled`). By node: the latest edge into it. An edge that is linked is one more than its number, and 0 is none, as in the index of a whole graph (specs/Index of trace_graph).
use Rattle.std.specs.Prelude.{ℕ, suc, ◌+◌, ◌/◌, ◌%◌, ◌≤◌, ◌<◌, ◌≡◌, true, false, List, length, get_or, eqb}
use Rattle.lr1_base.specs.repr.Sizes.{nonterminal_limit, index_limit, item_limit, edge_limit}
use Rattle.lr1_base.specs.repr.Meaning.{Item, Production}
use Rattle.trace_graph.specs.Graph.{Node, at_nonterminal, at_item, same_item, TraceEdge}
use Rattle.trace_graph.specs.Fits.{edge_is_fit}
use Rattle.enumerator.specs.example.Example.{Label}
use Rattle.enumerator.specs.example.Labels.{LabelFits}
use Rattle.enumerator.specs.trials.Trials.{Ends, ends_of, Small}
use Rattle.enumerator.specs.trials.Lister.{label_at}
use Rattle.enumerator.specs.trials.Machine.{below, link_of}

-- the nodes that a walk can enter: the nonterminals, and then the start item; one word more serves all other items, which no walk enters
abbrev pub view_nodes : ℕ
view_nodes = nonterminal_limit + 1

abbrev pub latest_room : ℕ
latest_room = view_nodes + 1

unfoldable pub view_node : Item → ℕ → Node
view_node start s = elim (eqb s nonterminal_limit) [ true ↦ at_item start | false ↦ at_nonterminal s ]

-- a node's number among them
unfoldable pub slot_of : Item → Node → ℕ
slot_of start (at_nonterminal n) = n
slot_of start (at_item i) = elim (same_item i start) [ true ↦ nonterminal_limit | false ↦ view_nodes ]

-- where an edge comes from: one more than the nonterminal, or 0 for an item
unfoldable pub source_of : Node → ℕ
source_of (at_item i) = 0
source_of (at_nonterminal n) = suc n

-- so many words, none above a limit
pub record Bounded (size limit : ℕ) (ws : List ℕ) : Type 0 where
  pub long : length ws ≡ size
  pub low : (k : ℕ) → get_or ws k 0 ≤ limit

-- words that the code may go by, whatever graph they are of
pub record Tidy (sources older latest : List ℕ) : Type 0 where
  pub by_source : Bounded edge_limit nonterminal_limit sources
  pub by_older : Bounded edge_limit edge_limit older
  pub by_latest : Bounded latest_room edge_limit latest

-- the view of the first k edges
pub record Viewed (G : Ends) (start : Item) (sources older latest : List ℕ) (k : ℕ) : Type 0 where
  pub tidy : Tidy sources older latest
  pub sourced : (e : ℕ) → e < k → get_or sources e 0 ≡ source_of (G.source e)
  pub linked : (e s : ℕ) → e < k → s < view_nodes → G.target e ≡ view_node start s → get_or older e 0 ≡ link_of (below G (view_node start s) e)
  pub headed : (s : ℕ) → s < view_nodes → get_or latest s 0 ≡ link_of (below G (view_node start s) k)

-- the view of a graph's edges for a listing from an item
pub record View (es : List TraceEdge) (start : Item) (sources older latest : List ℕ) : Type 0 where
  pub few : length es ≤ edge_limit
  pub small : Small (ends_of es)
  pub viewed : Viewed (ends_of es) start sources older latest (length es)

-- of a view, where the edges come from
pub record Sourced (es : List TraceEdge) (sources : List ℕ) : Type 0 where
  pub few : length es ≤ edge_limit
  pub bounded : Bounded edge_limit nonterminal_limit sources
  pub sourced : (e : ℕ) → e < length es → get_or sources e 0 ≡ source_of ((ends_of es).source e)

-- a label by the nonterminal that its edge comes from, and its item in one word, whatever the edge's kind (specs/edge_codes/Codes of trace)
unfoldable pub label_in : ℕ → ℕ → Label
label_in n c = record { nonterminal = n; production = c % item_limit / index_limit; index = c % item_limit % index_limit }

-- by edge its label, each in range
pub record Labelled (ps : List Production) (es : List TraceEdge) (owners codes : List ℕ) : Type 0 where
  pub few : length es ≤ edge_limit
  pub by_owner : length owners ≡ edge_limit
  pub by_code : length codes ≡ edge_limit
  pub label : (e : ℕ) → e < length es → label_in (get_or owners e 0) (get_or codes e 0) ≡ label_at ps es e
  pub fits : (e : ℕ) → e < length es → LabelFits ps (label_at ps es e)

-- edge k of a graph's words is in range, of a table with productions ps
pub record EdgeRanged (ps : List Production) (g : List ℕ) (k : ℕ) : Type 0 where
  pub nonterminals : ℕ
  pub few : nonterminals ≤ nonterminal_limit
  pub fits : edge_is_fit nonterminals ps g k ≡ true
