-- A trace's edges in words as the code keeps them: a count, and then one word an edge in the order added; and a flag for each key that an edge has.
use Rattle.std.specs.Prelude.{◌≡◌, ℕ, ◌+◌, ◌<◌, ◌≤◌, List, length, get_or, nat_eq, slice_index, slice_index_or}
use Rattle.lr1_base.specs.repr.Sizes.{production_limit, edge_limit}
use Rattle.lr1_base.specs.repr.Lists.{some?}
use Rattle.lr1_base.specs.repr.Meaning.{Production, Table, All}
use Rattle.trace_graph.specs.Graph.{TraceEdge, no_edge}
use Rattle.trace.specs.Sound.{EdgeSound}
use Rattle.lr1_base.specs.bits.Bits.{bit_at}
use Rattle.trace.specs.edge_codes.Codes.{code_limit, code_of, least_alike, key_of}

-- a count and a word an edge; a bit a key
abbrev pub codes_room : ℕ
codes_room = 1 + edge_limit

abbrev pub key_words : ℕ
key_words = 102

pub record Coded (T : Table) (ws fs : List ℕ) (es : List TraceEdge) : Type 0 where
  pub long : length ws ≡ codes_room
  pub flags : length fs ≡ key_words
  pub few : length es ≤ edge_limit
  pub count : get_or ws 0 0 ≡ length es
  pub codes : (j : ℕ) → j < length es → slice_index ws (1 + j) ≡ code_of (slice_index_or es j no_edge)
  pub keys : (k : ℕ) → k < code_limit → bit_at fs k ≡ some? (λ e. nat_eq k (key_of T.productions (code_of e))) es
  pub traced : All (EdgeSound T) es

-- the least production of the same nonterminal and symbols, for each production
pub record Leasts (ps : List Production) (ls : List ℕ) : Type 0 where
  pub long : length ls ≡ production_limit
  pub few : length ps ≤ production_limit
  pub exact : (p : ℕ) → p < length ps → slice_index ls p ≡ least_alike ps p

-- a word for each production, and each of them that of a production
abbrev pub SmallLeasts : List ℕ → Type 0
SmallLeasts ls = (length ls ≡ production_limit) × ((p : ℕ) → p < production_limit → slice_index ls p < production_limit)
