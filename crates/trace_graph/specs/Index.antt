-- The edges in chains, newest first, as the code keeps them beside a graph, to look for an equal edge. A word for each bucket, which holds 0 or one more than the number of the latest
-- edge in the bucket; then a word for each edge, which holds the next older edge in the same bucket in the same way.
use Rattle.std.specs.Prelude.{◌≡◌, ℕ, ◌+◌, ◌*◌, ◌%◌, ◌<◌, Bool, true, List, [], ◌∷◌, length, ◌==◌, slice_index, slice_index_or}
use Rattle.lr1_base.specs.repr.Sizes.{nonterminal_limit, index_limit, item_limit, edge_limit}
use Rattle.lr1_base.specs.repr.Meaning.{Symbol, nonterminal, terminal, Production, no_production}
use Rattle.trace_graph.specs.Graph.{Node, at_nonterminal, at_item, TraceEdge}
use Rattle.trace_graph.specs.Words.{edge_at}
use Rattle.trace_graph.specs.Fits.{item_is_fit}
use Rattle.lr1_base.specs.hash_index.Chains.{newest, Linked}

-- nodes, which are the nonterminals and then the items
abbrev pub node_limit : ℕ
node_limit = nonterminal_limit + item_limit

abbrev pub bucket_limit : ℕ
bucket_limit = edge_limit

-- the words of the buckets, and behind them those of the edges
abbrev pub index_room : ℕ
index_room = bucket_limit + edge_limit

unfoldable pub number_of_node : Node → ℕ
number_of_node (at_nonterminal n) = n
number_of_node (at_item i) = nonterminal_limit + (i.production * index_limit + i.index)

unfoldable pub symbol_number : Symbol → ℕ
symbol_number (nonterminal n) = n
symbol_number (terminal n) = nonterminal_limit + n

-- symbols mixed into a number
unfoldable pub mixed : ℕ → List Symbol → ℕ
mixed h [] = h
mixed h (x ∷ xs) = mixed ((h * 211 + symbol_number x) % 65536) xs

-- the bucket of an edge: of what makes edges equal, so of the label's symbols and not of its production's number. The factors spread edges that differ in one part.
unfoldable pub bucket_number : List Production → TraceEdge → ℕ
bucket_number ps e =
    mixed ((number_of_node e.source * 3001 + (number_of_node e.target * 613 + e.label.index * 89)) % 65536) (slice_index_or ps e.label.production no_production).symbols
    % bucket_limit

-- edge j is in bucket b
unfoldable pub in_bucket : List Production → List ℕ → ℕ → ℕ → Bool
in_bucket ps ws b j = bucket_number ps (edge_at ws j) == b

-- a node of a table with n nonterminals and productions ps
unfoldable pub InRange : ℕ → List Production → Node → Type 0
InRange n ps (at_nonterminal m) = m < n
InRange n ps (at_item i) = item_is_fit ps i.production i.index ≡ true

-- the index of the first k edges of ws
pub record Indexed (ps : List Production) (ws ix : List ℕ) (k : ℕ) : Type 0 where
  pub long : length ix ≡ index_room
  pub bucketed : (b : ℕ) → b < bucket_limit → Linked ix bucket_limit (slice_index ix b) (newest (in_bucket ps ws b) k)
